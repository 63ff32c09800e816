-- What is gathered from ends: their refuters, each once, in the fixed order, with their margins.
use Rattle.std.proofs.Common.{◌≡◌, ℕ, ◌⊎◌, inl, inr, List, [], ◌∷◌, map, fold, Option, Some, None, refl, sym, ap, subst, ◌∙◌}
use Rattle.std.proofs.lemmas.Bool.{cases_Bool}
use Rattle.std.specs.declared.cmp.Ordering.{Ordering}
use Rattle.std.specs.declared.cmp.Ordering.TheVariants.{Less, Equal, Greater}
use Rattle.std.specs.Ordering.{match_ordering}
use Rattle.std.specs.BTreeMap.{insert_entry}
use Rattle.std.specs.BTreeSet.{insert_key}
use Rattle.irv_base.proofs.Members.{Member, here, there, member_at, member_cases, member_nil}
use Rattle.assertions.specs.declared.assertion.Assertion.{Assertion}
use Rattle.assertions.specs.contracts.assertion.AssertionOrd.TheImpl.{ghosts}
use Rattle.assertions.specs.FixedOrder.{is_before}
use Rattle.assertions.specs.Assertions.{true_margin}
use Rattle.assertions.specs.Hardness.{low, refuter}
use Rattle.assertions.specs.Scores.{score_of}
use Rattle.assertions.specs.Certificate.{claim_of}
use Rattle.assertions.proofs.Sorted.{Sorted, none, more}
use Rattle.assertions.proofs.FixedOrders.{Before, before-either, before-not_both}
use Rattle.assertions.proofs.Ords.{cmp-Less, cmp-Equal, fixed_order_is_total}
use Rattle.assertions.proofs.Lows.{from_refuter}
use Rattle.certifier.specs.Gathered.{with_margin, gathered, with_all, claim_at}

abbrev pub order : Assertion → Assertion → Ordering
order = ghosts.cmp

order-after : (k x : Assertion) → order k x ≡ Greater → Before x k
order-after k x e =
    elim (cases_Bool (is_before k x)) [
      | inl t ↦ let l : order k x ≡ Less = (cmp-Less k x).1 t in cc
      | inr f ↦ elim (before-either k x f) [ inl same ↦ let q : order k x ≡ Equal = (cmp-Equal k x).1 same in cc | inr b ↦ b ]
    ]

-- ---- putting one in
from_insert : (ks : List Assertion) (k a : Assertion) → Member a (insert_key order ks k) → (k ≡ a) ⊎ Member a ks
from_insert [] k a m = elim (member_cases m) [ inl e ↦ inl e | inr r ↦ absurd (member_nil r) ]
from_insert (x ∷ xs) k a m = go (order k x) m (from_insert xs k a) where
  go : (o : Ordering) → Member a (match_ordering o (k ∷ x ∷ xs) (x ∷ xs) (x ∷ insert_key order xs k)) →
      (Member a (insert_key order xs k) → (k ≡ a) ⊎ Member a xs) → (k ≡ a) ⊎ Member a (x ∷ xs)
  go Less n ih = elim (member_cases n) [ inl e ↦ inl e | inr r ↦ inr r ]
  go Equal n ih = inr n
  go Greater n ih = elim (member_cases n) [ inl e ↦ inr (member_at e) | inr r ↦ elim (ih r) [ inl e ↦ inl e | inr s ↦ inr (there s) ] ]

insert-here : (ks : List Assertion) (k : Assertion) → Member k (insert_key order ks k)
insert-here [] k = here
insert-here (x ∷ xs) k = go (order k x) refl (insert-here xs k) where
  go : (o : Ordering) → order k x ≡ o → Member k (insert_key order xs k) → Member k (match_ordering o (k ∷ x ∷ xs) (x ∷ xs) (x ∷ insert_key order xs k))
  go Less e ih = here
  go Equal e ih = member_at (sym ((cmp-Equal k x).0 e))
  go Greater e ih = there ih

insert-keeps : (ks : List Assertion) (k a : Assertion) → Member a ks → Member a (insert_key order ks k)
insert-keeps [] k a m = absurd (member_nil m)
insert-keeps (x ∷ xs) k a m = go (order k x) (insert-keeps xs k a) where
  go : (o : Ordering) → (Member a xs → Member a (insert_key order xs k)) → Member a (match_ordering o (k ∷ x ∷ xs) (x ∷ xs) (x ∷ insert_key order xs k))
  go Less ih = there m
  go Equal ih = m
  go Greater ih = elim (member_cases m) [ inl e ↦ member_at e | inr r ↦ there (ih r) ]

insert-sorted : (ks : List Assertion) (k : Assertion) → Sorted Before ks → Sorted Before (insert_key order ks k)
insert-sorted [] k none = more (λ y m. absurd (member_nil m)) none
insert-sorted (x ∷ xs) k (more first r) = go (order k x) refl (insert-sorted xs k r) where
  go : (o : Ordering) → order k x ≡ o → Sorted Before (insert_key order xs k) →
      Sorted Before (match_ordering o (k ∷ x ∷ xs) (x ∷ xs) (x ∷ insert_key order xs k))
  go Less e ih =
      let l : Before k x = (cmp-Less k x).0 e in
      more {x = k} {xs = x ∷ xs} (λ y m. elim (member_cases m) [ inl s ↦ subst (Before k) s l | inr n ↦ fixed_order_is_total.goes_on k x y l (first y n) ])
      (more {x = x} {xs = xs} first r)
  go Equal e ih = more {x = x} {xs = xs} first r
  go Greater e ih =
      let l : Before x k = order-after k x e in
      more {x = x} {xs = insert_key order xs k} (λ y m. elim (from_insert xs k y m) [ inl s ↦ subst (Before x) s l | inr n ↦ first y n ]) ih

-- one that is already there
insert-stays : (ks : List Assertion) (k : Assertion) → Sorted Before ks → Member k ks → insert_key order ks k ≡ ks
insert-stays [] k none m = absurd (member_nil m)
insert-stays (x ∷ xs) k (more first r) m = go (order k x) refl (insert-stays xs k r) where
  go : (o : Ordering) → order k x ≡ o → (Member k xs → insert_key order xs k ≡ xs) →
      match_ordering o (k ∷ x ∷ xs) (x ∷ xs) (x ∷ insert_key order xs k) ≡ x ∷ xs
  go Less e ih =
      let l : Before k x = (cmp-Less k x).0 e in
      elim (member_cases m) [
        | inl same ↦ absurd (before-not_both k x l (subst (λ z. Before z k) (sym same) (subst (Before k) same l)))
        | inr later ↦ absurd (before-not_both k x l (first k later))
      ]
  go Equal e ih = refl
  go Greater e ih =
      let l : Before x k = order-after k x e in
      elim (member_cases m) [
        | inl same ↦ absurd (before-not_both x k l (subst (Before k) (sym same) (subst (λ z. Before z k) same l)))
        | inr later ↦ ap (λ r. x ∷ r) (ih later)
      ]

-- ---- putting in the refuters of suffixes
abbrev with_key : List Assertion → Option Assertion → List Assertion
with_key ks None = ks
with_key ks (Some a) = insert_key order ks a

module _ {X : Type 0} (by : X → Option Assertion) where
  abbrev pub keys_of : List Assertion → List X → List Assertion
  keys_of ks xs = fold (λ so_far x. with_key so_far (by x)) ks xs

  pub keys-sorted : (ks : List Assertion) (xs : List X) → Sorted Before ks → Sorted Before (keys_of ks xs)
  keys-sorted ks [] r = r
  keys-sorted ks (x ∷ xs) r = keys-sorted (with_key ks (by x)) xs (go (by x)) where
    go : (o : Option Assertion) → Sorted Before (with_key ks o)
    go None = r
    go (Some a) = insert-sorted ks a r

  pub from_keys : (ks : List Assertion) (xs : List X) (a : Assertion) → Member a (keys_of ks xs) → Member a ks ⊎ ((x : X) × Member x xs × (by x ≡ Some a))
  from_keys ks [] a m = inl m
  from_keys ks (x ∷ xs) a m =
      elim (from_keys (with_key ks (by x)) xs a m) [
        | inl k ↦ go (by x) refl k
        | inr r ↦ inr (r.0, there r.1, r.2)
      ]
    where
      go : (o : Option Assertion) → by x ≡ o → Member a (with_key ks o) → Member a ks ⊎ ((y : X) × Member y (x ∷ xs) × (by y ≡ Some a))
      go None e k = inl k
      go (Some b) e k = elim (from_insert ks b a k) [ inl same ↦ inr (x, here, e ∙ ap Some same) | inr r ↦ inl r ]

  pub keys-keep : (ks : List Assertion) (xs : List X) (a : Assertion) → Member a ks → Member a (keys_of ks xs)
  keys-keep ks [] a m = m
  keys-keep ks (x ∷ xs) a m = keys-keep (with_key ks (by x)) xs a (go (by x)) where
    go : (o : Option Assertion) → Member a (with_key ks o)
    go None = m
    go (Some b) = insert-keeps ks b a m

  pub keys-stay : (ks : List Assertion) (xs : List X) → Sorted Before ks → ((x : X) (a : Assertion) → Member x xs → by x ≡ Some a → Member a ks) →
      keys_of ks xs ≡ ks
  keys-stay ks [] r h = refl
  keys-stay ks (x ∷ xs) r h = ap (λ js. keys_of js xs) (go (by x) refl) ∙ keys-stay ks xs r (λ y a m. h y a (there m)) where
    go : (o : Option Assertion) → by x ≡ o → with_key ks o ≡ ks
    go None e = refl
    go (Some a) e = insert-stays ks a r (h x a here e)

  pub keys-member : (ks : List Assertion) (xs : List X) (s : X) (a : Assertion) → Member s xs → by s ≡ Some a → Member a (keys_of ks xs)
  keys-member ks [] s a m e = absurd (member_nil m)
  keys-member ks (t ∷ xs) s a m e =
      elim (member_cases m) [
        | inl same ↦ keys-keep (with_key ks (by t)) xs a (subst (λ o. Member a (with_key ks o)) (sym (ap by same ∙ e)) (insert-here ks a))
        | inr r ↦ keys-member (with_key ks (by t)) xs s a r e
      ]

module _ (n : ℕ) (records : List (List ℕ)) where
  -- ---- with their margins
  abbrev pub marked : Assertion → Assertion × ℕ
  marked a = (a, true_margin records a)

  insert-marked : (ks : List Assertion) (a : Assertion) → insert_entry order (map marked ks) a (true_margin records a) ≡ map marked (insert_key order ks a)
  insert-marked [] a = refl
  insert-marked (x ∷ xs) a = go (order a x) refl (insert-marked xs a) where
    go : (o : Ordering) → order a x ≡ o → insert_entry order (map marked xs) a (true_margin records a) ≡ map marked (insert_key order xs a) →
        match_ordering o (marked a ∷ marked x ∷ map marked xs) ((x, true_margin records a) ∷ map marked xs)
        (marked x ∷ insert_entry order (map marked xs) a (true_margin records a))
        ≡ map marked (match_ordering o (a ∷ x ∷ xs) (x ∷ xs) (x ∷ insert_key order xs a))
    go Less e ih = refl
    go Equal e ih = let same : a ≡ x = (cmp-Equal a x).0 e in ap (λ b. (x, true_margin records b) ∷ map marked xs) same
    go Greater e ih = ap (λ r. marked x ∷ r) ih

  margin-marked : (ks : List Assertion) (s : List ℕ) → with_margin order (map marked ks) (refuter n records s) (low n records s)
      ≡ map marked (with_key ks (refuter n records s))
  margin-marked ks s = go (refuter n records s) refl where
    go : (o : Option Assertion) → refuter n records s ≡ o → with_margin order (map marked ks) o (low n records s) ≡ map marked (with_key ks o)
    go None e = refl
    go (Some a) e = ap (insert_entry order (map marked ks) a) (sym (from_refuter n records s a e).reached) ∙ insert-marked ks a

  pub gathered-marked : (ks : List Assertion) (suffixes : List (List ℕ)) → gathered order (score_of n records) (map marked ks) suffixes
      ≡ map marked (keys_of (refuter n records) ks suffixes)
  gathered-marked ks [] = refl
  gathered-marked ks (s ∷ suffixes) =
      ap (λ es. gathered order (score_of n records) es suffixes) (margin-marked ks s) ∙ gathered-marked (with_key ks (refuter n records s)) suffixes

  -- the entries have one list of keys
  pub marked-one : (ks js : List Assertion) → map marked ks ≡ map marked js → ks ≡ js
  marked-one ks js e = sym (firsts ks) ∙ ap (map (λ (entry : Assertion × ℕ). entry.0)) e ∙ firsts js where
    firsts : (is : List Assertion) → map (λ (entry : Assertion × ℕ). entry.0) (map marked is) ≡ is
    firsts [] = refl
    firsts (i ∷ is) = ap (λ r. i ∷ r) (firsts is)

  pub map-marked : (ks : List Assertion) → map claim_at (map marked ks) ≡ map (claim_of records) ks
  map-marked [] = refl
  map-marked (k ∷ ks) = ap (λ r. claim_of records k ∷ r) (map-marked ks)

  -- the entries of one map put into another
  pub all-marked : (ks fs : List Assertion) → with_all order (map marked ks) (map marked fs) ≡ map marked (keys_of Some ks fs)
  all-marked ks [] = refl
  all-marked ks (f ∷ fs) = ap (λ es. with_all order es (map marked fs)) (insert-marked ks f) ∙ all-marked (insert_key order ks f) fs
