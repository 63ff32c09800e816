-- Lists of numbers, compared at the first place where they differ.
use Rattle.std.proofs.Common.{List, [], arith, eq-eqb, eqb-true, false, inl, inr, lt-ltb, ltb-true, nat_lt, refl, sym, true, ℕ, ◌&&◌, ◌<◌, ◌==◌, ◌∷◌, ◌≡◌, ◌⊎◌}
use Rattle.std.proofs.lemmas.Bool.{and_from, and_parts, both_ways, cases_Bool, cases_eq, cases_lt, or_cases, or_left, or_right}
use Rattle.assertions.specs.Lists.{stands_before}

pub stands_before-not_both : (x y : List ℕ) → stands_before x y ≡ true → stands_before y x ≡ true → ⊥
stands_before-not_both [] [] h k = cc
stands_before-not_both [] (b ∷ y) h k = cc
stands_before-not_both (a ∷ x) [] h k = cc
stands_before-not_both (a ∷ x) (b ∷ y) h k =
    elim (or_cases (nat_lt a b) ((a == b) && stands_before x y) h) [
      | inl l ↦ let l' : a < b = ltb-true a b l in elim (or_cases (nat_lt b a) ((b == a) && stands_before y x) k) [
        | inl g ↦ let g' : b < a = ltb-true b a g in omega arith
        | inr g ↦ let e : b ≡ a = eqb-true b a (and_parts (b == a) (stands_before y x) g).0 in omega arith
      ]
      | inr l ↦
          let (p, q) = and_parts (a == b) (stands_before x y) l in
          let e' : a ≡ b = eqb-true a b p in
          elim (or_cases (nat_lt b a) ((b == a) && stands_before y x) k) [
            | inl g ↦ let g' : b < a = ltb-true b a g in omega arith
            | inr g ↦ stands_before-not_both x y q (and_parts (b == a) (stands_before y x) g).1
          ]
    ]

pub stands_before-chain : (x y z : List ℕ) → stands_before x y ≡ true → stands_before y z ≡ true → stands_before x z ≡ true
stands_before-chain [] [] z h k = cc
stands_before-chain [] (b ∷ y) [] h k = cc
stands_before-chain [] (b ∷ y) (d ∷ z) h k = refl
stands_before-chain (a ∷ x) [] z h k = cc
stands_before-chain (a ∷ x) (b ∷ y) [] h k = cc
stands_before-chain (a ∷ x) (b ∷ y) (d ∷ z) h k =
    elim (or_cases (nat_lt a b) ((a == b) && stands_before x y) h) [
      | inl l ↦ let l' : a < b = ltb-true a b l in elim (or_cases (nat_lt b d) ((b == d) && stands_before y z) k) [
        | inl g ↦ let g' : b < d = ltb-true b d g in or_left (nat_lt a d) ((a == d) && stands_before x z) (lt-ltb a d (omega arith))
        | inr g ↦ let e : b ≡ d = eqb-true b d (and_parts (b == d) (stands_before y z) g).0 in
            or_left (nat_lt a d) ((a == d) && stands_before x z) (lt-ltb a d (omega arith))
      ]
      | inr l ↦
          let (p, q) = and_parts (a == b) (stands_before x y) l in
          let e' : a ≡ b = eqb-true a b p in
          elim (or_cases (nat_lt b d) ((b == d) && stands_before y z) k) [
            | inl g ↦ let g' : b < d = ltb-true b d g in or_left (nat_lt a d) ((a == d) && stands_before x z) (lt-ltb a d (omega arith))
            | inr g ↦
                let (p', q') = and_parts (b == d) (stands_before y z) g in
                let e : b ≡ d = eqb-true b d p' in
                or_right (nat_lt a d) ((a == d) && stands_before x z)
                (and_from (a == d) (stands_before x z) (eq-eqb a d (omega arith)) (stands_before-chain x y z q q'))
          ]
    ]

pub stands_before-either : (x y : List ℕ) → stands_before x y ≡ false → (x ≡ y) ⊎ (stands_before y x ≡ true)
stands_before-either [] [] h = inl refl
stands_before-either [] (b ∷ y) h = cc
stands_before-either (a ∷ x) [] h = inr refl
stands_before-either (a ∷ x) (b ∷ y) h =
    elim (cases_lt b a) [
      | inl g ↦ inr (or_left (nat_lt b a) ((b == a) && stands_before y x) (lt-ltb b a g))
      | inr le ↦ elim (cases_eq a b) [
        | inl e ↦ elim (cases_Bool (stands_before x y)) [
          | inl t ↦ absurd (both_ways (stands_before (a ∷ x) (b ∷ y)) h
              (or_right (nat_lt a b) ((a == b) && stands_before x y) (and_from (a == b) (stands_before x y) (eq-eqb a b e) t)))
          | inr f ↦ elim (stands_before-either x y f) [
            | inl s ↦ inl (cc)
            | inr s ↦ inr (or_right (nat_lt b a) ((b == a) && stands_before y x) (and_from (b == a) (stands_before y x) (eq-eqb b a (sym e)) s))
          ]
        ]
        | inr ne ↦ absurd (both_ways (stands_before (a ∷ x) (b ∷ y)) h (or_left (nat_lt a b) ((a == b) && stands_before x y) (lt-ltb a b (omega arith))))
      ]
    ]
