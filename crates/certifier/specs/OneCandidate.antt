-- What is found among the suffixes that end in one candidate.
use Rattle.std.specs.Prelude.{◌≡◌, ◌<◌, ◌+◌, ℕ, List, [], ◌∷◌, Bool, true, false, Option, Some, None, Result, Ok, Err}
use Rattle.std.specs.Option.{MatchOption}
use Rattle.assertions.specs.declared.assertion.Assertion.{Assertion}
use Rattle.assertions.specs.Hardness.{low, best_margin}
use Rattle.assertions.specs.Scores.{score_of}
use Rattle.assertions.specs.contracts.assertion.AssertionOrd.TheImpl.{ghosts}
use Rattle.suffix_walk.specs.Kept.{all_ending}
use Rattle.suffix_walk.specs.Walks.{walked}
use Rattle.suffix_walk.specs.declared.walk.Stop.{Stop}
use Rattle.suffix_walk.specs.declared.walk.Stop.TheVariants as stopped
use Rattle.certifier.specs.declared.walk.WalkEnd.{WalkEnd}
use Rattle.certifier.specs.declared.gather.Task.{Task}
use Rattle.certifier.specs.declared.part.OrderEnd.{OrderEnd}
use Rattle.certifier.specs.declared.part.Part.{Part}
use Rattle.certifier.specs.Gathered.{gathered}
use Rattle.certifier.specs.Walks.{is_under, IsWalk, OnCounted, ends_in}

-- the task is about the contest of the records
pub record IsTask (n : ℕ) (records : List (List ℕ)) (task : Task) : Type 0 where
  pub winner : task.winner < n
  pub best : task.best ≡ best_margin n task.winner (low n records)

-- the walk for the assertions goes on while the best margin isn't reached, the walk for the order while it isn't exceeded
abbrev pub cover_walk : ℕ → List (List ℕ) → Task → ℕ → Result ℕ Stop
cover_walk n records task last =
    walked n task.nodes (is_under n records task.best) 0 (all_ending n (last ∷ []))

abbrev pub order_walk : ℕ → List (List ℕ) → Task → ℕ → Result ℕ Stop
order_walk n records task last =
    walked n task.nodes (is_under n records (task.best + 1)) 0 (all_ending n (last ∷ []))

-- a walk reaches no whole order, and is within the budget
abbrev pub IsGone : Result ℕ Stop → Type 0
IsGone walk = (count : ℕ) × (walk ≡ Ok count)

-- a stop at this order, or over the budget if there is none
abbrev pub stop_of : Option (List ℕ) → Stop
stop_of None = stopped.Spent
stop_of (Some order) = stopped.Found order

-- the walk for the assertions is over the budget, or the refuters of the ends that it passes are put in
abbrev pub IsCovered : ℕ → List (List ℕ) → Task → ℕ → List (Assertion × ℕ) → List (Assertion × ℕ) →
    Bool → Type 0
IsCovered n records task last before after true = cover_walk n records task last ≡ Err stopped.Spent
IsCovered n records task last before after false =
    (walk : WalkEnd) × IsWalk last (Ok walk) (cover_walk n records task last)
    × OnCounted walk (after ≡ gathered ghosts.cmp (score_of n records) before
    (ends_in n records task.best (all_ending n (last ∷ []))))

-- the end that was there, or otherwise that of this walk, if it has one
abbrev pub IsNextEnd : ℕ → Option OrderEnd → Option OrderEnd → Result ℕ Stop → Type 0
IsNextEnd last (Some end) next walk = next ≡ Some end
IsNextEnd last None None walk = IsGone walk
IsNextEnd last None (Some end) walk = (end.last ≡ last) × (walk ≡ Err (stop_of end.order))

-- what is found for this candidate is added to the part
pub record IsNextWithin (n : ℕ) (records : List (List ℕ)) (task : Task) (last : ℕ)
    (part next : Part) : Type 0 where
  pub covered : IsCovered n records task last part.claims next.claims false
  pub end : IsNextEnd last part.end next.end (order_walk n records task last)

pub record IsNextOver (n : ℕ) (records : List (List ℕ)) (task : Task) (last : ℕ) (part next : Part)
    (over : ℕ) : Type 0 where
  pub candidate : over ≡ last
  pub covered : IsCovered n records task last part.claims next.claims true
  pub end : next.end ≡ part.end

abbrev pub IsNext : ℕ → List (List ℕ) → Task → ℕ → Part → Part → Type 0
IsNext n records task last part next =
    MatchOption next.over (IsNextWithin n records task last part next)
    (IsNextOver n records task last part next)
