-- The parts of the certificate within a budget of sets.
use Rattle.std.specs.Prelude.{◌≡◌, ℕ, ◌<◌, ◌≤◌, List, Option, None, Some}
use Rattle.assertions.specs.Certificate.{certificate_order}
use Rattle.assertions.specs.Hardness.{low}
use Rattle.bound_search.specs.declared.ends.Best.{Best}
use Rattle.set_search.specs.Given.{AreCover}
use Rattle.set_search.specs.Sets.{best_of, cover_sets, order_sets, sets_for}

-- the best margin, and the certificate's order
pub record IsOrder (n : ℕ) (records : List (List ℕ)) (winner sets : ℕ) (best : Best) : Type 0 where
  pub margin : best.margin ≡ best_of n records winner
  pub order :
      certificate_order n winner (low n records) (best_of n records winner) ≡ Some best.order
  pub within : order_sets n records winner ≤ sets

-- that, or more sets are needed than the budget allows
abbrev pub IsOrderIn : ℕ → List (List ℕ) → ℕ → ℕ → Option Best → Type 0
IsOrderIn n records winner sets None = sets < sets_for n records winner
IsOrderIn n records winner sets (Some best) = IsOrder n records winner sets best

-- the sets that are reached below the best margin
pub record IsCover (n : ℕ) (records : List (List ℕ)) (winner sets : ℕ) (seen : List ℕ)
    : Type 0 where
  pub cover : AreCover n records winner (best_of n records winner) seen
  pub within : cover_sets n records winner ≤ sets
