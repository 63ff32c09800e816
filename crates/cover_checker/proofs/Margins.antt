-- The smallest margin of claims.
use Rattle.std.proofs.Common.{◌≡◌, ℕ, min, List, [], ◌∷◌, unwrap_or, refl}
use Rattle.std.specs.List.{reduce}
use Rattle.irv_base.specs.Tabulation.{least}

pub least-reduce : (xs : List ℕ) → unwrap_or (reduce min xs) 0 ≡ least xs
least-reduce [] = refl
least-reduce (x ∷ xs) = refl
