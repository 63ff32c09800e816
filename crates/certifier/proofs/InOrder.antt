-- The marks of a list: those of its first entries, the same marks sorted, and the last mark of each number.
use Rattle.std.proofs.Common.{◌≡◌, ℕ, ◌+◌, ◌<◌, ◌≤◌, ◌==◌, ◌&&◌, ◌++◌, not, Bool, true, false, true≢false, cond, if◌then◌else◌, List, [], ◌∷◌, map, length, take, get_or, IsPermutation, refl, sym, ap, ap₂, subst, arith, ◌∙◌}
use Rattle.std.proofs.lemmas.Cmp.{nat_cmp_total, ranked, tied_itself}
use Rattle.std.proofs.lemmas.List.{map-append, take_more}
use Rattle.std.proofs.lemmas.List.Elements.{All-head, All-nil, All-push, All-tail}
use Rattle.std.proofs.lemmas.List.Sorted.{All-permutation, IsNonDecreasingBy-drop, IsNonDecreasingBy-from_sort}
use Rattle.std.specs.Cmp.{unsigned_ties}
use Rattle.std.specs.List.{All, AllByRecursion, filter}
use Rattle.std.specs.List.Sorted.{IsNonDecreasingBy, IsSortedByKey, IsStableByKey, ties}
use Rattle.std.specs.Ordering.{is_eq, is_lt, nat_cmp}
use Rattle.std.specs.declared.cmp.Ordering.{Ordering}
use Rattle.std.specs.declared.cmp.Ordering.TheVariants.{Less, Equal, Greater}
use Rattle.assertions.specs.declared.assertion.Assertion.{Assertion}
use Rattle.assertions.specs.declared.assertion.Assertion.TheVariants.{Neb}
use Rattle.assertions.specs.declared.assertion.Claim.{Claim}
use Rattle.assertions.specs.FixedOrder.{number_of, HasDigits}
use Rattle.assertions.proofs.Numbers.{numbers-rise}
use Rattle.certifier.specs.Gathered.{claim_at}
use Rattle.certifier.specs.InOrder.{entry_at, IsMark, AreMarks, AreSorted}
use Rattle.certifier.specs.declared.in_order.Mark.{Mark}
use Rattle.certifier.proofs.Sorting.{order, exact_order, entries, entries-alike, entries-lasts, lasts, Rises}

-- ---- filters
module _ {A : Type 0} where
  filter-mapped : {B : Type 0} (f : A → B) (p : B → Bool) (xs : List A) → filter p (map f xs) ≡ map f (filter (λ x. p (f x)) xs)
  filter-mapped f p [] = refl
  filter-mapped f p (x ∷ xs) = go (p (f x)) (filter-mapped f p xs) where
    go : (b : Bool) → filter p (map f xs) ≡ map f (filter (λ y. p (f y)) xs) →
        cond b (f x ∷ filter p (map f xs)) (filter p (map f xs)) ≡ map f (cond b (x ∷ filter (λ y. p (f y)) xs) (filter (λ y. p (f y)) xs))
    go true ih = ap (λ ys. f x ∷ ys) ih
    go false ih = ih

  -- what passes the finer test passes the coarser one
  filter-finer : (p t : A → Bool) (xs : List A) → AllByRecursion (λ x. p x ≡ true → t x ≡ true) xs → filter p xs ≡ filter p (filter t xs)
  filter-finer p t [] a = refl
  filter-finer p t (x ∷ xs) a = go (p x) (t x) refl refl (filter-finer p t xs a.1) where
    rest : List A
    rest = filter p (filter t xs)

    go : (b c : Bool) → p x ≡ b → t x ≡ c → filter p xs ≡ rest →
        cond b (x ∷ filter p xs) (filter p xs) ≡ filter p (cond c (x ∷ filter t xs) (filter t xs))
    go true true h k ih = ap (λ ys. x ∷ ys) ih ∙ sym (ap (λ b. cond b (x ∷ rest) rest) h)
    go true false h k ih = absurd (true≢false (sym (a.0 h) ∙ k))
    go false true h k ih = ih ∙ sym (ap (λ b. cond b (x ∷ rest) rest) h)
    go false false h k ih = ih

is_eq-Equal : (o : Ordering) → is_eq o ≡ true → o ≡ Equal
is_eq-Equal Less h = cc
is_eq-Equal Equal h = refl
is_eq-Equal Greater h = cc

-- of several adjacent marks with one number, the last
abbrev pub lasts_of : List Mark → List Mark
lasts_of [] = []
lasts_of (m ∷ []) = m ∷ []
lasts_of (m ∷ k ∷ ms) = if m.number == k.number then lasts_of (k ∷ ms) else m ∷ lasts_of (k ∷ ms)

module _ (list : List (Assertion × ℕ)) where
  -- ---- marks of the first entries
  pub marks-none : AreMarks list (take 0 list) []
  marks-none = record { each = All-nil (IsMark list); entries_are = refl }

  pub marks-more : (ms : List Mark) (m : Mark) (i : ℕ) → i < length list → m.place ≡ i → m.number ≡ number_of (entry_at list m).0 →
      HasDigits (entry_at list m).0 → AreMarks list (take i list) ms → AreMarks list (take (i + 1) list) (ms ++ m ∷ [])
  marks-more ms m i l at number digits h = record {
    each = All-push (IsMark list) ms m h.each (record { below = omega (arith, l, at); number = number; digits = digits });
    entries_are = map-append (entry_at list) ms (m ∷ []) ∙ ap₂ (λ es e. es ++ e ∷ []) h.entries_are (ap (λ j. get_or list j (Neb 0 0, 0)) at)
        ∙ sym (take_more list i (Neb 0 0, 0) l);
  }

  -- ---- sorted
  compared : (m k : Mark) → IsMark list m → IsMark list k → nat_cmp m.number k.number ≡ order (entry_at list m).0 (entry_at list k).0
  compared m k h g = ap₂ nat_cmp h.number g.number ∙ numbers-rise (entry_at list m).0 (entry_at list k).0 h.digits g.digits

  abbrev of_number : (a : Assertion) → Mark
  of_number a = record { number = number_of a; place = 0 }

  with_number : (a : Assertion) (m : Mark) → IsMark list m → is_eq (order (entry_at list m).0 a) ≡ true →
      ties (λ x y. is_lt (nat_cmp x.number y.number)) (of_number a) m ≡ true
  with_number a m h e =
      let same : m.number ≡ number_of a = h.number ∙ ap number_of (exact_order (entry_at list m).0 a (is_eq-Equal (order (entry_at list m).0 a) e)) in
      subst (λ n. (not (is_lt (nat_cmp (number_of a) n)) && not (is_lt (nat_cmp n (number_of a)))) ≡ true) (sym same)
      (ap (λ o. not (is_lt o) && not (is_lt o)) (tied_itself nat_cmp_total (number_of a)))

  all_with_number : (a : Assertion) (ms : List Mark) → All (IsMark list) ms →
      AllByRecursion (λ m. is_eq (order (entry_at list m).0 a) ≡ true → ties (λ x y. is_lt (nat_cmp x.number y.number)) (of_number a) m ≡ true) ms
  all_with_number a [] h = tt
  all_with_number a (m ∷ ms) h = (with_number a m (All-head (IsMark list) m ms h), all_with_number a ms (All-tail (IsMark list) m ms h))

  pub sorted-marks : (zs ys : List Mark) → AreMarks list list zs → IsPermutation zs ys → IsSortedByKey (λ (m : Mark). m.number) nat_cmp ys →
      IsStableByKey (λ (m : Mark). m.number) nat_cmp zs ys → AreSorted list ys
  sorted-marks zs ys h moved up stable = record {
    each = each;
    rising = IsNonDecreasingBy-from_sort (λ (m : Mark). m.number) ys up;
    same = entries-alike (map (entry_at list) ys) (map (entry_at list) zs) alike ∙ ap entries h.entries_are;
  }
    where
      each : All (IsMark list) ys
      each = All-permutation (IsMark list) zs ys moved h.each

      alike : (a : Assertion) →
          filter (λ e. is_eq (order e.0 a)) (map (entry_at list) ys) ≡ filter (λ e. is_eq (order e.0 a)) (map (entry_at list) zs)
      alike a =
          let of_a : Mark → Bool = λ m. is_eq (order (entry_at list m).0 a) in
          let tied : Mark → Bool = ties (λ x y. is_lt (nat_cmp x.number y.number)) (of_number a) in
          filter-mapped (entry_at list) (λ e. is_eq (order e.0 a)) ys
          ∙ ap (map (entry_at list))
          (filter-finer of_a tied ys (all_with_number a ys each) ∙ ap (filter of_a) (stable (of_number a))
          ∙ sym (filter-finer of_a tied zs (all_with_number a zs h.each)))
          ∙ sym (filter-mapped (entry_at list) (λ e. is_eq (order e.0 a)) zs)

  -- ---- the last mark of each number
  rises : (ms : List Mark) → All (IsMark list) ms → IsNonDecreasingBy (λ (m : Mark). m.number) ms → Rises order (map (entry_at list) ms)
  rises [] h up = tt
  rises (m ∷ []) h up = tt
  rises (m ∷ k ∷ ms) h up =
      let tail = All-tail (IsMark list) m (k ∷ ms) h in
      let le : m.number ≤ k.number = up 0 1 m (omega arith) (omega arith) in (
        λ g. let lt = ranked m.number k.number Greater
            (sym (compared m k (All-head (IsMark list) m (k ∷ ms) h) (All-head (IsMark list) k ms tail) ∙ g)) in omega (arith, le, lt),
        rises (k ∷ ms) tail (IsNonDecreasingBy-drop (λ (m : Mark). m.number) 1 (m ∷ k ∷ ms) up),
      )

  lasts-mapped : (ms : List Mark) → All (IsMark list) ms → map (entry_at list) (lasts_of ms) ≡ lasts order (map (entry_at list) ms)
  lasts-mapped [] h = refl
  lasts-mapped (m ∷ []) h = refl
  lasts-mapped (m ∷ k ∷ ms) h =
      go (m.number == k.number) (is_eq (order (entry_at list m).0 (entry_at list k).0))
      (unsigned_ties m.number k.number ∙ ap is_eq (compared m k (All-head (IsMark list) m (k ∷ ms) h) (All-head (IsMark list) k ms tail)))
      (lasts-mapped (k ∷ ms) tail)
    where
      tail : All (IsMark list) (k ∷ ms)
      tail = All-tail (IsMark list) m (k ∷ ms) h

      go : (b c : Bool) → b ≡ c → map (entry_at list) (lasts_of (k ∷ ms)) ≡ lasts order (map (entry_at list) (k ∷ ms)) →
          map (entry_at list) (if b then lasts_of (k ∷ ms) else m ∷ lasts_of (k ∷ ms))
          ≡ (if c then lasts order (map (entry_at list) (k ∷ ms)) else entry_at list m ∷ lasts order (map (entry_at list) (k ∷ ms)))
      go true true e ih = ih
      go true false e ih = cc
      go false true e ih = cc
      go false false e ih = ap (λ es. entry_at list m ∷ es) ih

  abbrev pub claims_of : List Mark → List Claim
  claims_of ms = map (λ m. claim_at (entry_at list m)) (lasts_of ms)

  claims-mapped : (ms : List Mark) → claims_of ms ≡ map claim_at (map (entry_at list) (lasts_of ms))
  claims-mapped ms = go (lasts_of ms) where
    go : (ks : List Mark) → map (λ m. claim_at (entry_at list m)) ks ≡ map claim_at (map (entry_at list) ks)
    go [] = refl
    go (k ∷ ks) = ap (λ cs. claim_at (entry_at list k) ∷ cs) (go ks)

  pub claims-sorted : (ms : List Mark) → AreSorted list ms → claims_of ms ≡ map claim_at (entries list)
  claims-sorted ms h =
      claims-mapped ms
      ∙ ap (map claim_at) (lasts-mapped ms h.each ∙ entries-lasts (map (entry_at list) ms) (rises ms h.each h.rising) ∙ h.same)

-- ---- claims as entries
abbrev pub entry_from : Claim → Assertion × ℕ
entry_from claim = (claim.assertion, claim.margin)

pub entries-back : (es : List (Assertion × ℕ)) → map entry_from (map claim_at es) ≡ es
entries-back [] = refl
entries-back (e ∷ es) = ap (λ fs. e ∷ fs) (entries-back es)
