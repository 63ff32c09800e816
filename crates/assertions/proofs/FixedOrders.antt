-- The list of all proper assertions is in the fixed order.
use Rattle.std.proofs.Common.{List, [], ap, arith, eq-eqb, false, inl, inr, lt-ltb, ltb-true, map, nat_lt, not, refl, subst, sym, true, ℕ, ◌&&◌, ◌<◌, ◌==◌, ◌^◌, ◌∷◌, ◌≡◌, ◌⊎◌}
use Rattle.std.proofs.lemmas.Bool.{and_from, and_parts, or_cases, or_left, or_right}
use Rattle.irv_base.specs.Candidates.{all_but, has}
use Rattle.irv_base.proofs.Members.{Member, from_flat_map, from_map}
use Rattle.assertions.specs.Assertions.{assertions, pairs, sets_with}
use Rattle.assertions.specs.FixedOrder.{is_before, key}
use Rattle.assertions.specs.Lists.{stands_before}
use Rattle.assertions.specs.declared.assertion.Assertion.{Assertion}
use Rattle.assertions.specs.declared.assertion.Assertion.TheVariants.{Neb, Nen}
use Rattle.assertions.proofs.Backwards.{stands_before-either, stands_before-not_both}
use Rattle.assertions.proofs.Sorted.{Sorted, sorted-append, sorted-filter, sorted-flat_map, sorted-map, sorted-range}

pub key-same : (a b : Assertion) → key a ≡ key b → a ≡ b
key-same (Neb w l) (Neb v k) e = cc
key-same (Nen w l s) (Nen v k u) e = cc
key-same (Neb w l) (Nen v k u) e = cc
key-same (Nen w l s) (Neb v k) e = cc

abbrev pub Before : Assertion → Assertion → Type 0
Before a b = is_before a b ≡ true

pub before-not_both : (a b : Assertion) → Before a b → Before b a → ⊥
before-not_both a b h k = stands_before-not_both (key a) (key b) h k

pub before-either : (a b : Assertion) → is_before a b ≡ false → (a ≡ b) ⊎ Before b a
before-either a b h = elim (stands_before-either (key a) (key b) h) [ inl e ↦ inl (key-same a b e) | inr r ↦ inr r ]

-- ---- the enumeration
abbrev PairBefore : (ℕ × ℕ) → (ℕ × ℕ) → Type 0
PairBefore p q = stands_before (p.0 ∷ p.1 ∷ []) (q.0 ∷ q.1 ∷ []) ≡ true

by_first : (a b : ℕ) (x y : List ℕ) → a < b → stands_before (a ∷ x) (b ∷ y) ≡ true
by_first a b x y h = or_left (nat_lt a b) ((a == b) && stands_before x y) (lt-ltb a b h)

by_rest : (a : ℕ) (x y : List ℕ) → stands_before x y ≡ true → stands_before (a ∷ x) (a ∷ y) ≡ true
by_rest a x y h = or_right (nat_lt a a) ((a == a) && stands_before x y) (and_from (a == a) (stands_before x y) (eq-eqb a a refl) h)

from_row : (n w : ℕ) (q : ℕ × ℕ) → Member q (map (λ l. (w, l)) (all_but n w)) → q.0 ≡ w
from_row n w q m = let (l, k, e) = from_map (λ l. (w, l)) q (all_but n w) m in ap (λ (p : ℕ × ℕ). p.0) (sym e)

sorted-pairs : (n : ℕ) → Sorted PairBefore (pairs n)
sorted-pairs n =
    sorted-flat_map ◌<◌ PairBefore (λ w. map (λ l. (w, l)) (all_but n w))
    (λ w. sorted-map ◌<◌ PairBefore (λ l. (w, l)) (λ l k h. by_rest w (l ∷ []) (k ∷ []) (by_first l k [] [] h))
    (sorted-filter ◌<◌ (λ c. not (c == w)) (sorted-range 0 n)))
    (λ w v x y h m m'.
    let e : x.0 ≡ w = from_row n w x m in
    let e' : y.0 ≡ v = from_row n v y m' in
    by_first x.0 y.0 (x.1 ∷ []) (y.1 ∷ []) (omega arith))
    (sorted-range 0 n)

longer : (a b c d : ℕ) (x y : List ℕ) → stands_before (a ∷ b ∷ []) (c ∷ d ∷ []) ≡ true → stands_before (a ∷ b ∷ x) (c ∷ d ∷ y) ≡ true
longer a b c d x y h =
    elim (or_cases (nat_lt a c) ((a == c) && stands_before (b ∷ []) (d ∷ [])) h) [
      | inl l ↦ by_first a c (b ∷ x) (d ∷ y) (ltb-true a c l)
      | inr r ↦
          let (p, q) = and_parts (a == c) (stands_before (b ∷ []) (d ∷ [])) r in
          elim (or_cases (nat_lt b d) ((b == d) && false) q) [
            | inl g ↦ or_right (nat_lt a c) ((a == c) && stands_before (b ∷ x) (d ∷ y))
                (and_from (a == c) (stands_before (b ∷ x) (d ∷ y)) p (by_first b d x y (ltb-true b d g)))
            | inr g ↦ let never : false ≡ true = (and_parts (b == d) false g).1 in cc
          ]
    ]

abbrev nens_of : ℕ → (ℕ × ℕ) → List Assertion
nens_of n p = map (λ s. Nen p.0 p.1 s) (sets_with n p)

pub sorted-assertions : (n : ℕ) → Sorted Before (assertions n)
sorted-assertions n =
    sorted-append Before (map (λ (p : ℕ × ℕ). Neb p.0 p.1) (pairs n)) _
    (sorted-map PairBefore Before (λ (p : ℕ × ℕ). Neb p.0 p.1) (λ p q h. by_rest 0 (p.0 ∷ p.1 ∷ []) (q.0 ∷ q.1 ∷ []) h) (sorted-pairs n))
    (sorted-flat_map PairBefore Before (nens_of n) within across (sorted-pairs n))
    (λ x y m m'.
    let (p, k, e) = from_map (λ (p : ℕ × ℕ). Neb p.0 p.1) x (pairs n) m in
    let (q, k', m'') = from_flat_map (nens_of n) y (pairs n) m' in
    let (s, k'', e') = from_map (λ s. Nen q.0 q.1 s) y (sets_with n q) m'' in
    subst (λ z. Before x z) e' (subst (λ z. Before z (Nen q.0 q.1 s)) e refl))
  where
    within : (p : ℕ × ℕ) → Sorted Before (nens_of n p)
    within p =
        sorted-map ◌<◌ Before (λ s. Nen p.0 p.1 s) (λ s u h. by_rest 1 (p.0 ∷ p.1 ∷ s ∷ []) (p.0 ∷ p.1 ∷ u ∷ [])
        (by_rest p.0 (p.1 ∷ s ∷ []) (p.1 ∷ u ∷ []) (by_rest p.1 (s ∷ []) (u ∷ []) (by_first s u [] [] h))))
        (sorted-filter ◌<◌ (λ s. has s p.0 && has s p.1) (sorted-range 0 (2 ^ n)))

    across : (p q : ℕ × ℕ) (x y : Assertion) → PairBefore p q → Member x (nens_of n p) → Member y (nens_of n q) → Before x y
    across p q x y h m m' =
        let (s, k, e) = from_map (λ s. Nen p.0 p.1 s) x (sets_with n p) m in
        let (u, k', e') = from_map (λ s. Nen q.0 q.1 s) y (sets_with n q) m' in
        subst (λ z. Before x z) e' (subst (λ z. Before z (Nen q.0 q.1 u)) e
        (by_rest 1 (p.0 ∷ p.1 ∷ s ∷ []) (q.0 ∷ q.1 ∷ u ∷ []) (longer p.0 p.1 q.0 q.1 (s ∷ []) (u ∷ []) h)))
