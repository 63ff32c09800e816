-- The smallest number of a list, by membership.
use Rattle.std.proofs.Common.{◌≡◌, ℕ, ◌≤◌, min, ◌⊎◌, inl, inr, List, [], ◌∷◌, fold, refl, sym, arith}
use Rattle.std.proofs.lemmas.Bool.{cases_lt}
use Rattle.irv_base.specs.Tabulation.{least}
use Rattle.irv_base.proofs.Members.{Member, here, there, member_at, member_cases, member_nil}

fold_min-start : (a : ℕ) (xs : List ℕ) → fold min a xs ≤ a
fold_min-start a [] = omega arith
fold_min-start a (x ∷ xs) = omega (arith, fold_min-start (min a x) xs)

fold_min-member : {x : ℕ} (a : ℕ) {xs : List ℕ} → Member x xs → fold min a xs ≤ x
fold_min-member {x} a (here {xs = xs}) = omega (arith, fold_min-start (min a x) xs)
fold_min-member a (there {y = y} m) = fold_min-member (min a y) m

fold_min_is : (a : ℕ) (xs : List ℕ) → (fold min a xs ≡ a) ⊎ Member (fold min a xs) xs
fold_min_is a [] = inl refl
fold_min_is a (x ∷ xs) =
    elim (fold_min_is (min a x) xs) [
      | inl e ↦ elim (cases_lt x a) [
        | inl l ↦ inr (member_at (omega arith))
        | inr g ↦ inl (omega arith)
      ]
      | inr m ↦ inr (there m)
    ]

pub least-member : (x : ℕ) (xs : List ℕ) → Member x xs → least xs ≤ x
least-member x [] m = absurd (member_nil m)
least-member x (y ∷ xs) m = elim (member_cases m) [ inl e ↦ omega (arith, fold_min-start y xs) | inr r ↦ fold_min-member y r ]

pub least_is : {y : ℕ} {ys : List ℕ} → Member y ys → Member (least ys) ys
least_is {y} {ys = ys} m = go ys m where
  go : (xs : List ℕ) → Member y xs → Member (least xs) xs
  go [] m = absurd (member_nil m)
  go (x ∷ xs) m = elim (fold_min_is x xs) [ inl e ↦ member_at (sym e) | inr r ↦ there r ]
