-- Lists with one element for each element of another list.
use Rattle.std.proofs.Common.{◌≡◌, ℕ, zero, suc, ◌<◌, get_or, inl, inr, List, [], ◌∷◌, ◌++◌, length, refl, subst, arith}
use Rattle.std.specs.List.{AllZip}
use Rattle.irv_base.proofs.Members.{Member, here, there, member_cases, member_nil}

module _ {A B : Type 0} (R : A → B → Type 0) where
  pub zip-push : (xs : List A) (ys : List B) (x : A) (y : B) → AllZip R xs ys → R x y → AllZip R (xs ++ x ∷ []) (ys ++ y ∷ [])
  zip-push [] [] x y z r = (r, tt)
  zip-push [] (b ∷ ys) x y z r = absurd z
  zip-push (a ∷ xs) [] x y z r = absurd z
  zip-push (a ∷ xs) (b ∷ ys) x y z r = (z.0, zip-push xs ys x y z.1 r)

  pub zip-length : (xs : List A) (ys : List B) → AllZip R xs ys → length ys ≡ length xs
  zip-length [] [] z = refl
  zip-length [] (b ∷ ys) z = absurd z
  zip-length (a ∷ xs) [] z = absurd z
  zip-length (a ∷ xs) (b ∷ ys) z = let e = zip-length xs ys z.1 in omega (arith, e)

  pub zip-right : (xs : List A) (ys : List B) (x : A) → AllZip R xs ys → Member x xs → (y : B) × Member y ys × R x y
  zip-right [] ys x z m = absurd (member_nil m)
  zip-right (a ∷ xs) [] x z m = absurd z
  zip-right (a ∷ xs) (b ∷ ys) x z m =
      elim (member_cases m) [
        | inl e ↦ (b, here, subst (λ a. R a b) e z.0)
        | inr k ↦ let (y, l, r) = zip-right xs ys x z.1 k in (y, there l, r)
      ]

  pub zip-left : (xs : List A) (ys : List B) (y : B) → AllZip R xs ys → Member y ys → (x : A) × R x y
  zip-left [] [] y z m = absurd (member_nil m)
  zip-left [] (b ∷ ys) y z m = absurd z
  zip-left (a ∷ xs) [] y z m = absurd (member_nil m)
  zip-left (a ∷ xs) (b ∷ ys) y z m =
      elim (member_cases m) [
        | inl e ↦ (a, subst (λ b. R a b) e z.0)
        | inr k ↦ zip-left xs ys y z.1 k
      ]

  pub zip-at : (xs : List A) (ys : List B) (k : ℕ) (d : B) → AllZip R xs ys → k < length ys → (x : A) × R x (get_or ys k d)
  zip-at [] [] k d z l = absurd (omega (arith, l))
  zip-at [] (b ∷ ys) k d z l = absurd z
  zip-at (a ∷ xs) [] k d z l = absurd z
  zip-at (a ∷ xs) (b ∷ ys) zero d z l = (a, z.0)
  zip-at (a ∷ xs) (b ∷ ys) (suc k) d z l = zip-at xs ys k d z.1 (omega (arith, l))
