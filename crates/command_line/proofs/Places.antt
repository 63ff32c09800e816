-- If no place passes, nothing passes.
use Rattle.std.proofs.Common.{◌≡◌, ◌+◌, ◌||◌, List, [], ◌∷◌, Bool, true, false, not, cond, length, refl, arith}
use Rattle.std.specs.List.{list_any, position_or_len}

pub none_passes : {X : Type 0} (p : X → Bool) (xs : List X) → position_or_len p xs ≡ length xs → list_any p xs ≡ false
none_passes p [] h = refl
none_passes p (x ∷ xs) h = by (p x) h (none_passes p xs) where
  by : (b : Bool) → cond (not b) (1 + position_or_len p xs) 0 ≡ length (x ∷ xs) → (position_or_len p xs ≡ length xs → list_any p xs ≡ false) →
      (b || list_any p xs) ≡ false
  by true e more = absurd (omega arith)
  by false e more = more (omega arith)
