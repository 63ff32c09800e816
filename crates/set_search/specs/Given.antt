-- The claims that steps give.
use Rattle.std.specs.Prelude.{◌↔◌, ℕ, if◌then◌else◌, nat_le, List, fold, Option, None, Contains}
use Rattle.std.specs.declared.cmp.Ordering.{Ordering}
use Rattle.assertions.specs.declared.assertion.Assertion.{Assertion}
use Rattle.assertions.specs.Scores.{Score}
use Rattle.certifier.specs.Gathered.{with_margin}
use Rattle.assertions.specs.Steps.{outside}
use Rattle.set_walk.specs.Walks.{standing}
use Rattle.set_search.specs.Limits.{within}
use Rattle.set_search.specs.Offers.{step_score}
use Rattle.set_search.specs.declared.by_margin.Limit.TheVariants.{Below}

-- the assertion of a step of at least the margin
abbrev pub given_by : ℕ → Score → Option Assertion
given_by margin step = if nat_le margin step.low then step.by else None

abbrev pub with_step : (Assertion → Assertion → Ordering) → ℕ → List (Assertion × ℕ) → Score →
    List (Assertion × ℕ)
with_step cmp margin entries step = with_margin cmp entries (given_by margin step) step.low

-- the entries with those of the steps from the set by each of the candidates
abbrev pub with_each : (Assertion → Assertion → Ordering) → ℕ → List (List ℕ) → ℕ →
    List (Assertion × ℕ) → ℕ → List ℕ → List (Assertion × ℕ)
with_each cmp n records margin entries set cs =
    fold (λ so_far c. with_step cmp margin so_far (step_score n records set c)) entries cs

abbrev pub with_steps : (Assertion → Assertion → Ordering) → ℕ → List (List ℕ) → ℕ →
    List (Assertion × ℕ) → ℕ → ℕ → List (Assertion × ℕ)
with_steps cmp n records margin entries set closed =
    with_each cmp n records margin entries set (outside n closed)

-- the sets are the ones that are reached below the margin
abbrev pub AreCover : ℕ → List (List ℕ) → ℕ → ℕ → List ℕ → Type 0
AreCover n records winner margin sets =
    (set : ℕ) →
    (Contains sets set ↔ Contains (standing n winner (within (Below margin) n records)) set)
