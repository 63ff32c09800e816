-- What the answer of `covered` is.
use Rattle.std.specs.Prelude.{◌≢◌, ◌<◌, ◌≤◌, ℕ, ◌-◌, ◌*◌, ◌^◌, ◌&&◌, nat_lt, if◌then◌else◌, List, length, find, count_by, Option, Some, None, option_map, Result, Ok, Err, Bool, not}
use Rattle.budget.specs.declared.budget.Budget.{Budget}
use Rattle.budget.specs.declared.budget.Budget.TheVariants.{Nodes, Sets}
use Rattle.irv_base.specs.Candidates.{all_but}
use Rattle.assertions.specs.declared.assertion.Assertion.{Assertion}
use Rattle.assertions.specs.Certificate.{cover_count}
use Rattle.assertions.specs.Hardness.{low}
use Rattle.assertions.specs.Suffixes.{alternative_orders, parts_ending, factorial}
use Rattle.suffix_walk.specs.Search.{is_passed}
use Rattle.assertions.specs.Steps.{step}
use Rattle.set_walk.specs.Walks.{counted, standing, passes}
use Rattle.cover_checker.specs.declared.cover.Verdict.{Verdict}
use Rattle.cover_checker.specs.declared.cover.Verdict.TheVariants.{Covered, Stands}
use Rattle.cover_checker.specs.declared.cover.CoverFault.{CoverFault}
use Rattle.cover_checker.specs.declared.cover.CoverFault.TheVariants.{Spent, SpentSets}
use Rattle.std.specs.List.{list_any}
use Rattle.assertions.specs.Refutation.{refutes}

abbrev pub stands : List Assertion → List ℕ → Bool
stands list suffix = not (list_any (λ a. refutes a suffix) list)

-- the least alternative order, read backwards, that no assertion refutes
abbrev pub standing_order : ℕ → ℕ → List Assertion → Option (List ℕ)
standing_order n winner list = find (stands list) (alternative_orders n winner)

-- the number of suffixes that count for c: they end in c, aren't whole orders, no assertion refutes them, and they come before the standing
-- order, if there is one
abbrev pub standing_count : ℕ → ℕ → List Assertion → ℕ → ℕ
standing_count n winner list c =
    count_by (λ suffix. stands list suffix && is_passed (standing_order n winner list) suffix)
    (parts_ending n c)

-- the lowest-numbered alternative winner for whom more suffixes than nodes count
abbrev pub first_over : ℕ → ℕ → List Assertion → ℕ → Option ℕ
first_over n winner list nodes =
    find (λ c. nat_lt nodes (standing_count n winner list c)) (all_but n winner)

-- the number of sets that count: those of suffixes that count for an alternative winner
abbrev pub standing_sets : ℕ → ℕ → List Assertion → ℕ
standing_sets n winner list = length (counted n winner (passes list))

-- the fault of a budget that runs out
abbrev pub spent_by : Budget → ℕ → ℕ → List Assertion → Option CoverFault
spent_by (Nodes nodes) n winner list = option_map Spent (first_over n winner list nodes)
spent_by (Sets sets) n winner list =
    if nat_lt sets (standing_sets n winner list) then Some (SpentSets sets) else None

abbrev pub verdict_on : Option (List ℕ) → Verdict
verdict_on None = Covered
verdict_on (Some order) = Stands order

abbrev pub or_spent : Option CoverFault → Verdict → Result Verdict CoverFault
or_spent (Some fault) verdict = Err fault
or_spent None verdict = Ok verdict

abbrev pub covered_is : ℕ → ℕ → List Assertion → Budget → Result Verdict CoverFault
covered_is n winner list budget =
    or_spent (spent_by budget n winner list) (verdict_on (standing_order n winner list))

-- no candidate needs more than the nodes, or no more sets count than there are
abbrev pub IsEnough : Budget → ℕ → ℕ → List Assertion → Type 0
IsEnough (Nodes nodes) n winner list =
    (c : ℕ) → c < n → c ≢ winner → standing_count n winner list c ≤ nodes
IsEnough (Sets sets) n winner list = standing_sets n winner list ≤ sets

-- this budget is enough for n candidates, whatever the assertions
abbrev pub IsEnoughFor : ℕ → Budget → Type 0
IsEnoughFor n (Nodes nodes) = 2 * factorial (n - 1) ≤ nodes
IsEnoughFor n (Sets sets) = 2 ^ n - 3 ≤ sets

-- this budget is enough to find the claims of the certificate: it has the suffixes for each candidate, or the sets in total, that are
-- reached below its margin
abbrev pub IsEnoughBelow : Budget → ℕ → ℕ → List (List ℕ) → ℕ → Type 0
IsEnoughBelow (Nodes nodes) n winner records margin =
    (c : ℕ) → c < n → c ≢ winner → cover_count n (low n records) margin c ≤ nodes
IsEnoughBelow (Sets sets) n winner records margin =
    length (standing n winner (λ set c. nat_lt (step n records set c) margin)) ≤ sets
