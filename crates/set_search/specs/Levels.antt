-- The margin that a walk must use.
use Rattle.std.specs.Prelude.{◌≡◌, ◌⊎◌, ℕ, ◌<◌, ◌≤◌, List, length}
use Rattle.set_walk.specs.Walks.{standing}
use Rattle.set_search.specs.Limits.{within}
use Rattle.set_search.specs.Sets.{best_of}
use Rattle.set_search.specs.declared.by_margin.Limit.TheVariants.{AtMost}

-- the best margin, or one that is no greater and by whose steps more sets are reached than the budget allows
pub record IsLevel (n : ℕ) (records : List (List ℕ)) (winner sets level : ℕ) : Type 0 where
  pub most : level ≤ best_of n records winner
  pub ends : (level ≡ best_of n records winner)
      ⊎ (sets < length (standing n winner (within (AtMost level) n records)))
