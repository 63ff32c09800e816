-- One more child, put in its place.
use Rattle.std.proofs.Common.{◌≡◌, ◌⊎◌, inl, inr, ℕ, ◌<◌, ◌≤◌, List, [], ◌∷◌, ◌++◌, length, All, Contains, Option, Some, None, IfSome, refl, sym, ap, subst, arith, le_trans, ◌+◌, Bool, cond, count_by, ◌==◌, true, false, eqb-true}
use Rattle.std.specs.BinaryHeap.{IsHeap}
use Rattle.std.specs.List.Sorted.{IsPermutation}
use Rattle.std.proofs.lemmas.Bool.{eqb-false}
use Rattle.std.proofs.lemmas.List.Sorted.{All-permutation, Contains-permutation, length_permutation, sum_by_pushed}
use Rattle.std.proofs.lemmas.List.Sums.{sum_by-append}
use Rattle.std.proofs.lemmas.List.Elements.{All-cons, All-nil, All-weaker, All-contains, All-contains_itself, Contains-append_left, Contains-append_right, Contains-append_cases}
use Rattle.irv_base.proofs.Members.{member_cases, member_nil, member-from_contains}
use Rattle.suffix_tree.specs.declared.scored.Scored.{Scored}
use Rattle.suffix_tree.specs.Scores.{first_is_greatest}
use Rattle.bound_search.specs.Sifted.{IsPlaced, IsFoundWithin, IsOpenChild, IsFoundChild}

-- the children that are left, and what happened to the others
pub record SiftedSoFar (children : List Scored) (bound : ℕ) (rest fresh : List Scored) (found : Option Scored) : Type 0 where
  pub within : All (Contains children) rest
  pub placed : (x : Scored) → Contains children x → Contains rest x ⊎ IsPlaced bound fresh found x
  pub heap : IsHeap first_is_greatest fresh
  pub open_ones : All (IsOpenChild children bound) fresh
  pub found_one : IfSome found (IsFoundChild children bound)
  pub counted : (p : Scored → Bool) → count_by p fresh + count_by p rest ≤ count_by p children

pub one_contained : {X : Type 0} (x : X) → Contains (x ∷ []) x
one_contained x = (0, omega arith, refl)

pub only_contained : {X : Type 0} (x y : X) → Contains (y ∷ []) x → y ≡ x
only_contained x y h = elim (member_cases (member-from_contains x (y ∷ []) h)) [ inl e ↦ e | inr m ↦ absurd (member_nil m) ]

pub all_from_contained : {X : Type 0} (P : X → Type 0) (xs : List X) → ((x : X) → Contains xs x → P x) → All P xs
all_from_contained P xs h = All-weaker (Contains xs) P h xs (All-contains_itself xs)

module _ (children : List Scored) (bound : ℕ) where
  -- without the last child, which has its place
  one_less : (rest' rest fresh fresh' : List Scored) (found found' : Option Scored) (x : Scored) → rest ≡ rest' ++ x ∷ [] →
      SiftedSoFar children bound rest fresh found →
      ((y : Scored) → IsPlaced bound fresh found y → IsPlaced bound fresh' found' y) → IsPlaced bound fresh' found' x →
      IsHeap first_is_greatest fresh' → All (IsOpenChild children bound) fresh' → IfSome found' (IsFoundChild children bound) →
      ((p : Scored → Bool) → count_by p fresh' ≤ count_by p fresh + cond (p x) 1 0) →
      SiftedSoFar children bound rest' fresh' found'
  one_less rest' rest fresh fresh' found found' x e s keeps put heap open_ones found_one few = record {
    within = all_from_contained (Contains children) rest' (λ y h. All-contains (Contains children) rest y s.within
        (subst (λ r. Contains r y) (sym e) (Contains-append_left rest' (x ∷ []) y h)));
    placed = λ y h. elim (s.placed y h) [
      | inl left ↦ elim (Contains-append_cases rest' (x ∷ []) y (subst (λ r. Contains r y) e left)) [
        | inl a ↦ inl a
        | inr b ↦ inr (subst (IsPlaced bound fresh' found') (only_contained y x b) put)
      ]
      | inr done ↦ inr (keeps y done)
    ];
    heap = heap;
    open_ones = open_ones;
    found_one = found_one;
    counted = λ p.
        let split : count_by p (rest' ++ x ∷ []) ≡ count_by p rest' + count_by p (x ∷ []) = sum_by-append (λ y. cond (p y) 1 0) rest' (x ∷ []) in
        let one : count_by p (x ∷ []) ≡ cond (p x) 1 0 = omega arith in
        omega (arith, few p, s.counted p, ap (count_by p) e, split, one);
  }

  last_of : (rest' rest : List Scored) (x : Scored) → rest ≡ rest' ++ x ∷ [] → All (Contains children) rest → Contains children x
  last_of rest' rest x e h = All-contains (Contains children) rest x h
      (subst (λ r. Contains r x) (sym e) (Contains-append_right rest' (x ∷ []) x (one_contained x)))

  pub pruned : (rest' rest fresh : List Scored) (found : Option Scored) (x : Scored) → rest ≡ rest' ++ x ∷ [] → bound ≤ x.low →
      SiftedSoFar children bound rest fresh found → SiftedSoFar children bound rest' fresh found
  pruned rest' rest fresh found x e le s = one_less rest' rest fresh fresh found found x e s (λ y h. h) (inl le) s.heap s.open_ones s.found_one
      (λ p. omega arith)

  pub pushed : (rest' rest fresh fresh' : List Scored) (found : Option Scored) (x : Scored) → rest ≡ rest' ++ x ∷ [] → x.low < bound →
      (length x.tail.list == x.tail.n) ≡ false →
      IsPermutation (x ∷ fresh) fresh' → (IsHeap first_is_greatest fresh → IsHeap first_is_greatest fresh') →
      SiftedSoFar children bound rest fresh found → SiftedSoFar children bound rest' fresh' found
  pushed rest' rest fresh fresh' found x e lt part p heap s =
      one_less rest' rest fresh fresh' found found x e s
      (λ y h. elim h [
        | inl a ↦ inl a
        | inr b ↦ elim b [
          | inl q ↦ inr (inl (Contains-permutation (x ∷ fresh) fresh' y p (Contains-append_right (x ∷ []) fresh y q)))
          | inr f ↦ inr (inr f)
        ]
      ])
      (inr (inl (Contains-permutation (x ∷ fresh) fresh' x p (Contains-append_left (x ∷ []) fresh x (one_contained x)))))
      (heap s.heap)
      (All-permutation (IsOpenChild children bound) (x ∷ fresh) fresh' p
      (All-cons (IsOpenChild children bound) x fresh
      (record { one = last_of rest' rest x e s.within; below = lt; part = eqb-false (length x.tail.list) x.tail.n part }) s.open_ones))
      s.found_one
      (λ q. let e : count_by q fresh' ≡ cond (q x) 1 0 + count_by q fresh = sum_by_pushed (λ y. cond (q y) 1 0) x fresh fresh' p in omega (arith, e))

  still_within : (r : Scored) (found : Option Scored) (m : ℕ) → IfSome found (λ o. r.low ≤ o.low) → IsFoundWithin found m → r.low ≤ m
  still_within r None m h f = absurd f
  still_within r (Some o) m h f = le_trans h f

  found_among : (r : Scored) (found : Option Scored) → found ≡ Some r → IfSome found (IsFoundChild children bound) → IsFoundChild children bound r
  found_among r None e h = cc
  found_among r (Some o) e h = let same : o ≡ r = cc in subst (IsFoundChild children bound) same h

  pub found_more : (rest' rest fresh : List Scored) (found : Option Scored) (x r : Scored) → rest ≡ rest' ++ x ∷ [] → x.low < bound →
      (length x.tail.list == x.tail.n) ≡ true →
      r.low ≤ x.low → IfSome found (λ o. r.low ≤ o.low) → (r ≡ x) ⊎ (found ≡ Some r) →
      SiftedSoFar children bound rest fresh found → SiftedSoFar children bound rest' fresh (Some r)
  found_more rest' rest fresh found x r e lt whole le les one s =
      one_less rest' rest fresh fresh found (Some r) x e s
      (λ y h. elim h [
        | inl a ↦ inl a
        | inr b ↦ elim b [ inl q ↦ inr (inl q) | inr f ↦ inr (inr (still_within r found y.low les f)) ]
      ])
      (inr (inr le)) s.heap s.open_ones
      (elim one [
        | inl same ↦ subst (IsFoundChild children bound) (sym same)
            (record { one = last_of rest' rest x e s.within; below = lt; whole = eqb-true (length x.tail.list) x.tail.n whole })
        | inr same ↦ found_among r found same s.found_one
      ])
      (λ p. omega arith)

pub sifted_start : (children : List Scored) (bound : ℕ) (fresh : List Scored) → fresh ≡ [] → IsHeap first_is_greatest fresh →
    SiftedSoFar children bound children fresh None
sifted_start children bound fresh e heap = record {
  within = All-contains_itself children;
  placed = λ x h. inl h;
  heap = heap;
  open_ones = subst (All (IsOpenChild children bound)) (sym e) (All-nil (IsOpenChild children bound));
  found_one = tt;
  counted = λ p. omega (arith, ap (count_by p) e);
}

-- a suffix pushed into an empty heap
pub pushed_alone : (x : Scored) (old new : List Scored) → old ≡ [] → IsPermutation (x ∷ old) new → new ≡ x ∷ []
pushed_alone x old new e p =
    let p' : IsPermutation (x ∷ []) new = subst (λ o. IsPermutation (x ∷ o) new) e p in
    let long : length new ≡ length (x ∷ []) = length_permutation (x ∷ []) new p' in
    let inside : Contains new x = Contains-permutation (x ∷ []) new x p' (one_contained x) in
    single new long inside
  where
    single : (xs : List Scored) → length xs ≡ 1 → Contains xs x → xs ≡ x ∷ []
    single [] l h = cc
    single (y ∷ []) l h = ap (λ z. z ∷ []) (only_contained x y h)
    single (y ∷ z ∷ zs) l h = absurd (omega arith)
