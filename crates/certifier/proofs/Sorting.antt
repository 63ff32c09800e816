-- Entries put in one by one. Sorting all of them at once, or putting some of them together first, gives the same.
use Rattle.std.proofs.Common.{◌≡◌, ℕ, ◌++◌, Bool, true, false, cond, if◌then◌else◌, unwrap_or, List, [], ◌∷◌, fold, Option, Some, None, inl, inr, refl, sym, ap, ap₂, subst, ◌∙◌}
use Rattle.std.proofs.Math.Path.{fun_ext}
use Rattle.std.proofs.lemmas.Bool.{cases_Bool}
use Rattle.std.proofs.lemmas.Cmp.{tied_itself}
use Rattle.std.proofs.lemmas.Map.{lookup-none}
use Rattle.std.proofs.lemmas.Map.Entries.{lookup_head, lookup_tail, none_below_head, none_past_head}
use Rattle.std.proofs.lemmas.Map.Keys.{IsDistinct-from_sorted, sorted_tail}
use Rattle.std.proofs.lemmas.Map.Lookups.{CmpEqualImpliesEq}
use Rattle.std.proofs.lemmas.Map.Made.{update_all_distinct, update_all_none}
use Rattle.std.specs.Prelude.{⊤}
use Rattle.std.specs.BTreeMap.{insert_entry, is_at}
use Rattle.std.specs.Cmp.{IsTotalOrder, eq_by_cmp_equiv}
use Rattle.std.specs.List.{AllByRecursion, filter}
use Rattle.std.specs.List.Sorted.{IsStrictlySortedBy}
use Rattle.std.specs.Map.{keys_of, lookup, update, update_all}
use Rattle.std.specs.Option.{option_or}
use Rattle.std.specs.Ordering.{is_eq, eq_by_cmp, match_ordering, ordering_reverse}
use Rattle.std.specs.declared.cmp.Ordering.{Ordering}
use Rattle.std.specs.declared.cmp.Ordering.TheVariants.{Less, Equal, Greater}
use Rattle.std.proofs.lemmas.List.Sums.{fold-append}
use Rattle.assertions.specs.declared.assertion.Assertion.{Assertion}
use Rattle.assertions.specs.contracts.assertion.AssertionOrd.TheImpl.{ghosts}
use Rattle.assertions.proofs.Ords.{cmp_total, cmp-Equal}
use Rattle.certifier.specs.Gathered.{with_all}

module _ {K : Type 0} where
  all_map : (P Q : K → Type 0) → ((y : K) → P y → Q y) → (ks : List K) → AllByRecursion P ks → AllByRecursion Q ks
  all_map P Q f [] a = tt
  all_map P Q f (k ∷ ks) a = (f k a.0, all_map P Q f ks a.1)

  none-sorted : (R : K → K → Ordering) → IsStrictlySortedBy R []
  unfolding IsStrictlySortedBy
  none-sorted R = tt

-- one test, used twice
asked_twice : {X : Type 0} (b : Bool) (v w : X) (l : Option X) → cond b (Some v) l ≡ cond b (Some v) (cond b (Some w) l)
asked_twice true v w l = refl
asked_twice false v w l = refl

-- two tests, of which at most one passes, in either order
either_order : {X : Type 0} (a b : Bool) (v w : X) (l : Option X) → (a ≡ true → b ≡ true → ⊥) → cond a (Some w) (cond b (Some v) l) ≡ cond b (Some v) (cond a (Some w) l)
either_order true true v w l never = absurd (never refl refl)
either_order true false v w l never = refl
either_order false true v w l never = refl
either_order false false v w l never = refl

-- at most one of the two is there
one_of_both : {X : Type 0} (b : Bool) (v : X) (l : Option X) → l ≡ (if b then None else cond b (Some v) l) → cond b (Some v) l ≡ option_or l (cond b (Some v) None)
one_of_both true v l h = ap (λ m. option_or m (Some v)) (sym h)
one_of_both false v None h = refl
one_of_both false v (Some w) h = refl

-- of several adjacent entries with one key, the last
abbrev pub lasts : {K X : Type 0} → (K → K → Ordering) → List (K × X) → List (K × X)
lasts R [] = []
lasts R (e ∷ []) = e ∷ []
lasts R (e ∷ f ∷ es) = if is_eq (R e.0 f.0) then lasts R (f ∷ es) else e ∷ lasts R (f ∷ es)

-- no key comes after the next one
abbrev pub Rises : {K X : Type 0} → (K → K → Ordering) → List (K × X) → Type 0
Rises R [] = ⊤
Rises R (e ∷ []) = ⊤
Rises R (e ∷ f ∷ es) = (R e.0 f.0 ≡ Greater → ⊥) × Rises R (f ∷ es)

module _ {K X : Type 0} {R : K → K → Ordering} (o : IsTotalOrder R) where
  -- what goes with a key
  abbrev found : List (K × X) → K → Option X
  found es q = lookup (is_at (R q)) es

  abbrev IsSorted : List (K × X) → Type 0
  IsSorted es = IsStrictlySortedBy R (keys_of es)

  -- more entries put in
  abbrev all : List (K × X) → List (K × X) → List (K × X)
  all es more = fold (λ so_far entry. insert_entry R so_far entry.0 entry.1) es more

  -- ---- one put in
  module _ (k : K) (v : X) where
    put-all : (P : K → Type 0) (es : List (K × X)) → P k → AllByRecursion P (keys_of es) → AllByRecursion P (keys_of (insert_entry R es k v))
    put-all P [] p a = (p, tt)
    put-all P (e ∷ es) p a = go (R k e.0) (put-all P es p a.1) where
      go : (r : Ordering) → AllByRecursion P (keys_of (insert_entry R es k v)) →
          AllByRecursion P (keys_of (match_ordering r ((k, v) ∷ e ∷ es) ((e.0, v) ∷ es) (e ∷ insert_entry R es k v)))
      go Less ih = (p, a)
      go Equal ih = a
      go Greater ih = (a.0, ih)

    put-sorted : (es : List (K × X)) → IsSorted es → IsSorted (insert_entry R es k v)
    unfolding IsStrictlySortedBy
    put-sorted [] s = (tt, tt)
    put-sorted (e ∷ es) s = go (R k e.0) refl (put-sorted es s.1) where
      go : (r : Ordering) → R k e.0 ≡ r → IsSorted (insert_entry R es k v) →
          IsSorted (match_ordering r ((k, v) ∷ e ∷ es) ((e.0, v) ∷ es) (e ∷ insert_entry R es k v))
      go Less h ih = ((h, all_map (λ y. R e.0 y ≡ Less) (λ y. R k y ≡ Less) (λ y l. o.trans k e.0 y h l) (keys_of es) s.0), s)
      go Equal h ih = s
      go Greater h ih = (put-all (λ y. R e.0 y ≡ Less) es (o.antisymm e.0 k ∙ ap ordering_reverse h) s.0, ih)

    both_ways : (q : K) → is_eq (R q k) ≡ is_eq (R k q)
    both_ways q = (eq_by_cmp_equiv o).symm q k

    put-found : (es : List (K × X)) (q : K) → found (insert_entry R es k v) q ≡ cond (is_eq (R k q)) (Some v) (found es q)
    put-found [] q = ap (λ b. cond b (Some v) None) (both_ways q)
    put-found (e ∷ es) q = go (R k e.0) refl (put-found es q) where
      go : (r : Ordering) → R k e.0 ≡ r → found (insert_entry R es k v) q ≡ cond (is_eq (R k q)) (Some v) (found es q) →
          found (match_ordering r ((k, v) ∷ e ∷ es) ((e.0, v) ∷ es) (e ∷ insert_entry R es k v)) q ≡ cond (is_eq (R k q)) (Some v) (found (e ∷ es) q)
      go Less h ih = ap (λ b. cond b (Some v) (found (e ∷ es) q)) (both_ways q)
      go Equal h ih =
          let same : is_eq (R q e.0) ≡ is_eq (R k q) = (eq_by_cmp_equiv o).symm q e.0 ∙ sym (ap is_eq (o.congr k e.0 q h)) in
          ap (λ b. cond b (Some v) (found es q)) same ∙ asked_twice (is_eq (R k q)) v e.1 (found es q)
          ∙ ap (λ b. cond (is_eq (R k q)) (Some v) (cond b (Some e.1) (found es q))) (sym same)
      go Greater h ih =
          ap (cond (is_eq (R q e.0)) (Some e.1)) ih
          ∙ either_order (is_eq (R q e.0)) (is_eq (R k q)) v e.1 (found es q) (λ at_e at_k. never at_e at_k)
        where
          never : is_eq (R q e.0) ≡ true → is_eq (R k q) ≡ true → ⊥
          never at_e at_k = apart (R k e.0) h (sym ((eq_by_cmp_equiv o).congr k q e.0 at_k ∙ at_e)) where
            apart : (r : Ordering) → r ≡ Greater → true ≡ is_eq r → ⊥
            apart Less g t = cc
            apart Equal g t = cc
            apart Greater g t = cc

  -- ---- several put in
  pub all-sorted : (es more : List (K × X)) → IsSorted es → IsSorted (all es more)
  all-sorted es [] s = s
  all-sorted es (e ∷ more) s = all-sorted (insert_entry R es e.0 e.1) more (put-sorted e.0 e.1 es s)

  all-found : (es more : List (K × X)) (q : K) → found (all es more) q ≡ update_all (eq_by_cmp R) (found es) more q
  all-found es [] q = refl
  all-found es (e ∷ more) q =
      all-found (insert_entry R es e.0 e.1) more q
      ∙ ap (λ f. update_all (eq_by_cmp R) f more q) (fun_ext (put-found e.0 e.1 es))

  module _ (exact : CmpEqualImpliesEq R) where
    -- what is sorted is known by what is found in it
    first-found : (x : K × X) (xs : List (K × X)) → found (x ∷ xs) x.0 ≡ Some x.1
    first-found x xs = lookup_head (is_at (R x.0)) x xs (ap is_eq (tied_itself o x.0))

    below-first : (q : K) (x : K × X) (xs : List (K × X)) → IsSorted (x ∷ xs) → R q x.0 ≡ Less → found (x ∷ xs) q ≡ None
    below-first q x xs s l = lookup-none (is_at (R q)) (x ∷ xs) (none_below_head o q x xs s l)

    found-rest : (x : K × X) (xs : List (K × X)) → IsSorted (x ∷ xs) → (q : K) → found xs q ≡ (if is_eq (R q x.0) then None else found (x ∷ xs) q)
    found-rest x xs s q =
        elim (cases_Bool (is_eq (R q x.0))) [
          | inl t ↦
              lookup-none (is_at (R q)) xs (none_past_head (eq_by_cmp_equiv o) q x xs (IsDistinct-from_sorted R (keys_of (x ∷ xs)) s) t)
              ∙ sym (ap (λ b. if b then None else found (x ∷ xs) q) t)
          | inr f ↦ sym (lookup_tail (is_at (R q)) x xs f) ∙ sym (ap (λ b. if b then None else found (x ∷ xs) q) f)
        ]

    same : (es fs : List (K × X)) → IsSorted es → IsSorted fs → ((q : K) → found es q ≡ found fs q) → es ≡ fs
    same [] [] s t h = refl
    same [] (y ∷ ys) s t h = let no : None ≡ Some y.1 = h y.0 ∙ first-found y ys in cc
    same (x ∷ xs) [] s t h = let no : Some x.1 ≡ None = sym (first-found x xs) ∙ h x.0 in cc
    same (x ∷ xs) (y ∷ ys) s t h = go (R x.0 y.0) refl (same xs ys (sorted_tail R x.0 (keys_of xs) s) (sorted_tail R y.0 (keys_of ys) t)) where
      go : (r : Ordering) → R x.0 y.0 ≡ r → (((q : K) → found xs q ≡ found ys q) → xs ≡ ys) → x ∷ xs ≡ y ∷ ys
      go Less l ih = let no : Some x.1 ≡ None = sym (first-found x xs) ∙ h x.0 ∙ below-first x.0 y ys t l in cc
      go Greater g ih =
          let no : Some y.1 ≡ None = sym (first-found y ys) ∙ sym (h y.0) ∙ below-first y.0 x xs s (o.antisymm y.0 x.0 ∙ ap ordering_reverse g) in cc
      go Equal e ih =
          let key : x.0 ≡ y.0 = exact x.0 y.0 e in
          let value : Some x.1 ≡ Some y.1 = sym (first-found x xs) ∙ h x.0 ∙ ap (found (y ∷ ys)) key ∙ first-found y ys in
          let first : x ≡ y = ap₂ (λ k v. (k, v)) key (ap (λ found. unwrap_or found x.1) value) in
          ap₂ (λ e es. e ∷ es) first
          (ih (λ q. found-rest x xs s q ∙ ap₂ (λ k l. if is_eq (R q k) then None else l) key (h q) ∙ sym (found-rest y ys t q)))

    -- what is sorted stays as it is
    pub sorted-stays : (es : List (K × X)) → IsSorted es → all [] es ≡ es
    sorted-stays es s =
        same (all [] es) es (all-sorted [] es (none-sorted R)) s
        (λ q. all-found [] es q ∙ update_all_none (eq_by_cmp_equiv o) (eq_by_cmp R) (λ x y. refl) es q (IsDistinct-from_sorted R (keys_of es) s))

    pub all-twice : (es : List (K × X)) → all [] (all [] es) ≡ all [] es
    all-twice es = sorted-stays (all [] es) (all-sorted [] es (none-sorted R))

    -- some of the entries put together first
    at_least : (f g h : K → Option X) (es : List (K × X)) (q : K) → f q ≡ option_or (g q) (h q) →
        update_all (eq_by_cmp R) f es q ≡ option_or (update_all (eq_by_cmp R) g es q) (h q)
    at_least f g h [] q e = e
    at_least f g h (p ∷ es) q e =
        at_least (update (eq_by_cmp R) f p.0 (Some p.1)) (update (eq_by_cmp R) g p.0 (Some p.1)) h es q (go (eq_by_cmp R p.0 q)) where
          go : (b : Bool) → cond b (Some p.1) (f q) ≡ option_or (cond b (Some p.1) (g q)) (h q)
          go true = refl
          go false = e

    -- ---- put in one by one, each in its place, or sorted with only the last of each key kept
    at_key : (f g : K → Option X) (es : List (K × X)) (q : K) → f q ≡ g q → update_all (eq_by_cmp R) f es q ≡ update_all (eq_by_cmp R) g es q
    at_key f g [] q e = e
    at_key f g (p ∷ es) q e =
        at_key (update (eq_by_cmp R) f p.0 (Some p.1)) (update (eq_by_cmp R) g p.0 (Some p.1)) es q
        (ap (λ l. cond (eq_by_cmp R p.0 q) (Some p.1) l) e)

    lasts-below : (k : K) (f : K × X) (es : List (K × X)) → Rises R (f ∷ es) → R k f.0 ≡ Less →
        AllByRecursion (λ y. R k y ≡ Less) (keys_of (lasts R (f ∷ es)))
    lasts-below k f [] r l = (l, tt)
    lasts-below k f (g ∷ es) r l = go (R f.0 g.0) refl (lasts-below k g es r.1) where
      go : (c : Ordering) → R f.0 g.0 ≡ c → (R k g.0 ≡ Less → AllByRecursion (λ y. R k y ≡ Less) (keys_of (lasts R (g ∷ es)))) →
          AllByRecursion (λ y. R k y ≡ Less) (keys_of (if is_eq c then lasts R (g ∷ es) else f ∷ lasts R (g ∷ es)))
      go Less h ih = (l, ih (o.trans k f.0 g.0 l h))
      go Equal h ih = ih (subst (λ y. R k y ≡ Less) (exact f.0 g.0 h) l)
      go Greater h ih = absurd (r.0 h)

    lasts-sorted : (es : List (K × X)) → Rises R es → IsSorted (lasts R es)
    unfolding IsStrictlySortedBy
    lasts-sorted [] r = tt
    lasts-sorted (e ∷ []) r = (tt, tt)
    lasts-sorted (e ∷ f ∷ es) r = go (R e.0 f.0) refl (lasts-sorted (f ∷ es) r.1) where
      go : (c : Ordering) → R e.0 f.0 ≡ c → IsSorted (lasts R (f ∷ es)) → IsSorted (if is_eq c then lasts R (f ∷ es) else e ∷ lasts R (f ∷ es))
      go Less h ih = (lasts-below e.0 f es r.1 h, ih)
      go Equal h ih = ih
      go Greater h ih = absurd (r.0 h)

    before-sorted : (e f : K × X) (es : List (K × X)) → Rises R (f ∷ es) → R e.0 f.0 ≡ Less → IsSorted (e ∷ lasts R (f ∷ es))
    unfolding IsStrictlySortedBy
    before-sorted e f es r h = (lasts-below e.0 f es r h, lasts-sorted (f ∷ es) r)

    lasts-found : (es : List (K × X)) (q : K) → Rises R es → found (lasts R es) q ≡ update_all (eq_by_cmp R) (λ _. None) es q
    lasts-found [] q r = refl
    lasts-found (e ∷ []) q r = ap (λ b. cond b (Some e.1) None) (both_ways e.0 e.1 q)
    lasts-found (e ∷ f ∷ es) q r = go (R e.0 f.0) refl (lasts-found (f ∷ es) q r.1) where
      after : K → Option X
      after = update (eq_by_cmp R) (λ _. None) e.0 (Some e.1)

      go : (c : Ordering) → R e.0 f.0 ≡ c → found (lasts R (f ∷ es)) q ≡ update_all (eq_by_cmp R) (λ _. None) (f ∷ es) q →
          found (if is_eq c then lasts R (f ∷ es) else e ∷ lasts R (f ∷ es)) q ≡ update_all (eq_by_cmp R) after (f ∷ es) q
      go Less h ih =
          one_of_both (is_eq (R q e.0)) e.1 (found (lasts R (f ∷ es)) q) (found-rest e (lasts R (f ∷ es)) (before-sorted e f es r.1 h) q)
          ∙ ap₂ (λ l b. option_or l (cond b (Some e.1) None)) ih (both_ways e.0 e.1 q)
          ∙ sym (at_least after (λ _. None) after (f ∷ es) q refl)
      go Equal h ih =
          ih
          ∙ at_key (update (eq_by_cmp R) (λ _. None) f.0 (Some f.1)) (update (eq_by_cmp R) after f.0 (Some f.1)) es q
          (asked_twice (eq_by_cmp R f.0 q) f.1 e.1 None
          ∙ ap (λ k. cond (eq_by_cmp R f.0 q) (Some f.1) (cond (eq_by_cmp R k q) (Some e.1) None)) (sym (exact e.0 f.0 h)))
      go Greater h ih = absurd (r.0 h)

    pub lasts-all : (es : List (K × X)) → Rises R es → lasts R es ≡ all [] es
    lasts-all es r =
        same (lasts R es) (all [] es) (lasts-sorted es r) (all-sorted [] es (none-sorted R)) (λ q. lasts-found es q r ∙ sym (all-found [] es q))

    -- only the entries with a key determine what is found there
    with_key : (g : K → Option X) (es : List (K × X)) (q : K) →
        update_all (eq_by_cmp R) g es q ≡ update_all (eq_by_cmp R) g (filter (λ e. eq_by_cmp R e.0 q) es) q
    with_key g [] q = refl
    with_key g (p ∷ es) q = go (eq_by_cmp R p.0 q) refl (with_key next es q) where
      next : K → Option X
      next = update (eq_by_cmp R) g p.0 (Some p.1)

      rest : List (K × X)
      rest = filter (λ e. eq_by_cmp R e.0 q) es

      go : (b : Bool) → eq_by_cmp R p.0 q ≡ b → update_all (eq_by_cmp R) next es q ≡ update_all (eq_by_cmp R) next rest q →
          update_all (eq_by_cmp R) next es q ≡ update_all (eq_by_cmp R) g (cond b (p ∷ rest) rest) q
      go true h ih = ih
      go false h ih = ih ∙ at_key next g rest q (ap (λ b. cond b (Some p.1) (g q)) h)

    pub all-alike : (es fs : List (K × X)) →
        ((q : K) → filter (λ e. eq_by_cmp R e.0 q) es ≡ filter (λ e. eq_by_cmp R e.0 q) fs) → all [] es ≡ all [] fs
    all-alike es fs h =
        same (all [] es) (all [] fs) (all-sorted [] es (none-sorted R)) (all-sorted [] fs (none-sorted R))
        (λ q. all-found [] es q ∙ with_key (found []) es q ∙ ap (λ l. update_all (eq_by_cmp R) (found []) l q) (h q)
        ∙ sym (with_key (found []) fs q) ∙ sym (all-found [] fs q))

    pub all-together : (es more : List (K × X)) → IsSorted es → all es (all [] more) ≡ all es more
    all-together es more s =
        let own = all-sorted [] more (none-sorted R) in
        same (all es (all [] more)) (all es more) (all-sorted es (all [] more) s) (all-sorted es more s)
        (λ q. all-found es (all [] more) q
        ∙ update_all_distinct (eq_by_cmp_equiv o) (eq_by_cmp R) (λ x y. refl) (found es) (all [] more) q (IsDistinct-from_sorted R (keys_of (all [] more)) own)
        ∙ ap (λ u. option_or u (found es q)) (all-found [] more q)
        ∙ sym (at_least (found es) (λ _. None) (found es) more q refl)
        ∙ sym (all-found es more q))

-- ---- assertions with their margins
abbrev pub order : Assertion → Assertion → Ordering
order = ghosts.cmp

pub exact_order : CmpEqualImpliesEq order
exact_order a b e = (cmp-Equal a b).0 e

abbrev pub entries : List (Assertion × ℕ) → List (Assertion × ℕ)
entries list = with_all order [] list

entries-sorted : (list : List (Assertion × ℕ)) → IsStrictlySortedBy order (keys_of (entries list))
entries-sorted list = all-sorted cmp_total [] list (none-sorted order)

pub entries-put : (list : List (Assertion × ℕ)) (a : Assertion) (margin : ℕ) → entries (list ++ (a, margin) ∷ []) ≡ insert_entry order (entries list) a margin
entries-put list a margin = fold-append (λ (so_far : List (Assertion × ℕ)) (entry : Assertion × ℕ). insert_entry order so_far entry.0 entry.1) [] list ((a, margin) ∷ [])

pub entries-joined : (own its : List (Assertion × ℕ)) → entries (own ++ its) ≡ with_all order (entries own) (entries its)
entries-joined own its =
    fold-append (λ (so_far : List (Assertion × ℕ)) (entry : Assertion × ℕ). insert_entry order so_far entry.0 entry.1) [] own its
    ∙ sym (all-together cmp_total exact_order (entries own) its (entries-sorted own))

pub entries-alike : (es fs : List (Assertion × ℕ)) → ((a : Assertion) → filter (λ e. is_eq (order e.0 a)) es ≡ filter (λ e. is_eq (order e.0 a)) fs) →
    entries es ≡ entries fs
entries-alike es fs h = all-alike cmp_total exact_order es fs h

pub entries-lasts : (es : List (Assertion × ℕ)) → Rises order es → lasts order es ≡ entries es
entries-lasts es r = lasts-all cmp_total exact_order es r

pub entries-twice : (list : List (Assertion × ℕ)) → entries (entries list) ≡ entries list
entries-twice list = all-twice cmp_total exact_order list
