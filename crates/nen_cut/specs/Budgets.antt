-- The number of sets that the NEBs of a floor leave standing.
use Rattle.std.specs.Prelude.{ℕ, ◌<◌, ◌≤◌, Bool, true, false, not, ◌&&◌, ◌==◌, List}
use Rattle.assertions.specs.Steps.{more}
use Rattle.fewest.specs.Flows.{is_barred}
use Rattle.nen_cut.specs.Floors.{sets_beside}

-- no NEB of the floor bars the step, and the step doesn't lead to the set of all
abbrev pub passes_short : ℕ → List (List ℕ) → ℕ → ℕ → ℕ → ℕ → Bool
passes_short n records floor all set c =
    not (is_barred n records floor set c) && not (more set c == all)

-- whether these sets are within the budget
abbrev pub IsWithin : ℕ → List (List ℕ) → ℕ → ℕ → ℕ → Bool → Type 0
IsWithin n records winner floor sets true = sets_beside n records winner floor ≤ sets
IsWithin n records winner floor sets false = sets < sets_beside n records winner floor
