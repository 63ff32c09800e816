-- What can be found wrong with an assertion file.
use Rattle.std.specs.Prelude.{ℕ, ◌+◌, ◌-◌, Bool, not, ◌&&◌, ◌==◌, nat_lt, if◌then◌else◌, List, [], ◌∷◌, length, map, slice_index, pos, Option, Some, None, option_and_then, Result, Ok, Err, ◌≡◌, ⊤}
use Rattle.std.specs.Cmp.Lexicographic.{pointwise}
use Rattle.std.specs.Option.{option_eq}
use Rattle.std.specs.Ordering.{int_eq}
use Rattle.budget.specs.declared.budget.Budget.{Budget}
use Rattle.irv_base.specs.Names.{Id, is_same}
use Rattle.irv_base.specs.Tabulation.{least}
use Rattle.assertions.specs.declared.assertion.Assertion.{Assertion}
use Rattle.assertions.specs.declared.assertion.Claim.{Claim}
use Rattle.assertions.specs.Assertions.{margin}
use Rattle.assertions.specs.Hardness.{low, refuter}
use Rattle.ballots.specs.Ballots.{BallotFile}
use Rattle.assertion_file.specs.Content.{Content, Plan, candidate_count}
use Rattle.cover_checker.specs.Covers.{covered_is}
use Rattle.cover_checker.specs.Draws.{clean_draws_of}
use Rattle.cover_checker.specs.declared.cover.Verdict.{Verdict}
use Rattle.cover_checker.specs.declared.cover.Verdict.TheVariants.{Covered, Stands as OrderStands}
use Rattle.cover_checker.specs.declared.cover.CoverFault.{CoverFault}
use Rattle.cover_checker.specs.declared.cover.CoverFault.TheVariants.{Spent as CoverSpent, SpentSets as CoverSpentSets, Memory as CoverMemory}
use Rattle.cover_checker.specs.declared.checked.Checked.{Checked}
use Rattle.cover_checker.specs.declared.checked.Checked.TheVariants.{OtherWinner, OtherMargin, Stands, NotLeast, NotAlternative, Harder, OtherDraws}
use Rattle.cover_checker.specs.declared.checked.CheckFault.{CheckFault}
use Rattle.cover_checker.specs.declared.checked.CheckFault.TheVariants.{Spent, SpentSets, Memory}

abbrev pub Answer : Type 0
Answer = Result Checked CheckFault

-- ---- the contest

abbrev pub are_same : List Id → List Id → Bool
are_same ids others = pointwise is_same ids others

-- the file is about the contest of the ballots: it has the same id, candidates, and number of records
abbrev pub is_about : BallotFile → Content → Bool
is_about ballots file =
    is_same file.contest ballots.contest && are_same file.candidates ballots.candidates
    && (file.records == length ballots.rankings)

-- ---- the winner

abbrev pub other_winner : ℕ → Content → Option Answer
other_winner winner file = if file.winner == winner then None else Some (Ok (OtherWinner winner))

-- ---- the claims

-- the margin over the records is different
abbrev pub has_other_margin : List (List ℕ) → Claim → Bool
has_other_margin records claim = not (int_eq (pos claim.margin) (margin records claim.assertion))

-- the first claim with a different margin, if the claims are counted from this number on
abbrev pub other_margin_from : List (List ℕ) → ℕ → List Claim → Option Answer
other_margin_from records at [] = None
other_margin_from records at (claim ∷ claims) =
    if has_other_margin records claim
    then Some (Ok (OtherMargin at (margin records claim.assertion)))
    else other_margin_from records (at + 1) claims

abbrev pub other_margin : List (List ℕ) → Content → Option Answer
other_margin records file = other_margin_from records 1 file.claims

abbrev pub assertions_of : Content → List Assertion
assertions_of file = map (λ claim. claim.assertion) file.claims

abbrev pub unless_covered : Result Verdict CoverFault → Option Answer
unless_covered (Ok Covered) = None
unless_covered (Ok (OrderStands order)) = Some (Ok (Stands order))
unless_covered (Err (CoverSpent last)) = Some (Err (Spent last))
unless_covered (Err (CoverSpentSets sets)) = Some (Err (SpentSets sets))
unless_covered (Err CoverMemory) = Some (Err Memory)

-- the order that no claim refutes, or a budget that isn't enough to find it
abbrev pub uncovered : Budget → Content → Option Answer
uncovered budget file =
    unless_covered (covered_is (candidate_count file) file.winner (assertions_of file) budget)

-- ---- the margin and the order of the file

abbrev pub smallest_margin : Content → ℕ
smallest_margin file = least (map (λ claim. claim.margin) file.claims)

abbrev pub other_smallest : Content → Option Answer
other_smallest file =
    if smallest_margin file == file.margin then None
    else Some (Ok (NotLeast (smallest_margin file)))

-- this candidate is last in the order
abbrev pub elects : List ℕ → ℕ → Bool
elects order c = slice_index order (length order - 1) == c

abbrev pub elected_by : Content → List ℕ → Option Answer
elected_by file order = if elects order file.winner then Some (Ok NotAlternative) else None

-- whether the file's order, if it has one, elects the winner
abbrev pub elected : Content → Option Answer
elected file = option_and_then (elected_by file) file.order

abbrev pub refuted_by : ℕ → Option Assertion → Option Answer
refuted_by margin None = None
refuted_by margin (Some assertion) = Some (Ok (Harder assertion margin))

-- the assertion with the largest margin that refutes the order, if that margin is above the file's; the first such assertion if several have it
abbrev pub harder_than : List (List ℕ) → Content → List ℕ → Option Answer
harder_than records file order =
    let hardness = low (candidate_count file) records order in
    if nat_lt file.margin hardness
    then refuted_by hardness (refuter (candidate_count file) records order) else None

-- nothing is said about the margin of a file without an order
abbrev pub harder : List (List ℕ) → Content → Option Answer
harder records file = option_and_then (harder_than records file) file.order

-- ---- the plan of the file

abbrev pub are_same_draws : Option ℕ → Option ℕ → Bool
are_same_draws draws others = option_eq ◌==◌ draws others

-- the first claim whose planned draws aren't its clean draws, if the claims are counted from this number on
abbrev pub other_draws_from : Plan → ℕ → List Claim → List (Option ℕ) → Option Answer
other_draws_from plan at [] draws = None
other_draws_from plan at (claim ∷ claims) [] = None
other_draws_from plan at (claim ∷ claims) (draws ∷ more) =
    let found = clean_draws_of plan claim in
    if are_same_draws found draws
    then other_draws_from plan (at + 1) claims more
    else Some (Ok (OtherDraws at found))

abbrev pub other_draws_in : Content → Plan → Option Answer
other_draws_in file plan = other_draws_from plan 1 file.claims plan.draws

-- a file without a plan has none
abbrev pub other_draws : Content → Option Answer
other_draws file = option_and_then (other_draws_in file) file.plan

-- the fault is the answer's
abbrev pub IsErrOf : Answer → CheckFault → Type 0
IsErrOf answer (Spent last) = answer ≡ Err (Spent last)
IsErrOf answer (SpentSets sets) = answer ≡ Err (SpentSets sets)
IsErrOf answer Memory = ⊤

-- the fault is what is found
abbrev pub IsFindingOf : Option Answer → CheckFault → Type 0
IsFindingOf found (Spent last) = found ≡ Some (Err (Spent last))
IsFindingOf found (SpentSets sets) = found ≡ Some (Err (SpentSets sets))
IsFindingOf found Memory = ⊤

-- the fault is running out of memory
abbrev pub IsWant : CheckFault → Type 0
IsWant (Spent last) = ⊥
IsWant (SpentSets sets) = ⊥
IsWant Memory = ⊤

-- the fault of `check` for a fault of `covered`
abbrev pub as_check_fault : CoverFault → CheckFault
as_check_fault (CoverSpent last) = Spent last
as_check_fault (CoverSpentSets sets) = SpentSets sets
as_check_fault CoverMemory = Memory
