-- The greatest number of a list, by membership.
use Rattle.std.proofs.Common.{List, [], arith, fold, inl, inr, max, refl, ℕ, ◌<◌, ◌∷◌, ◌≡◌, ◌≤◌, ◌⊎◌}
use Rattle.std.proofs.lemmas.Bool.{cases_lt}
use Rattle.irv_base.proofs.Members.{Member, here, member_at, there}
use Rattle.assertions.specs.Hardness.{greatest}

fold_max-start : (a : ℕ) (xs : List ℕ) → a ≤ fold max a xs
fold_max-start a [] = omega arith
fold_max-start a (x ∷ xs) = omega (arith, fold_max-start (max a x) xs)

fold_max-member : {x : ℕ} (a : ℕ) {xs : List ℕ} → Member x xs → x ≤ fold max a xs
fold_max-member {x} a (here {xs = xs}) = omega (arith, fold_max-start (max a x) xs)
fold_max-member a (there {y = y} m) = fold_max-member (max a y) m

fold_max_is : (a : ℕ) (xs : List ℕ) → (fold max a xs ≡ a) ⊎ Member (fold max a xs) xs
fold_max_is a [] = inl refl
fold_max_is a (x ∷ xs) =
    elim (fold_max_is (max a x) xs) [
      | inl e ↦ elim (cases_lt a x) [
        | inl l ↦ inr (member_at (omega arith))
        | inr g ↦ inl (omega arith)
      ]
      | inr m ↦ inr (there m)
    ]

pub greatest-member : {x : ℕ} {xs : List ℕ} → Member x xs → x ≤ greatest xs
greatest-member m = fold_max-member 0 m

pub greatest_is : (xs : List ℕ) → 0 < greatest xs → Member (greatest xs) xs
greatest_is xs h = elim (fold_max_is 0 xs) [ inl e ↦ absurd (omega arith) | inr m ↦ m ]

pub greatest-le : (m : ℕ) (xs : List ℕ) → ((x : ℕ) → Member x xs → x ≤ m) → greatest xs ≤ m
greatest-le m xs h = elim (cases_lt 0 (greatest xs)) [ inl lt ↦ h (greatest xs) (greatest_is xs lt) | inr z ↦ omega arith ]
