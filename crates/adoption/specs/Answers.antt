-- What the answer of `adopt` is.
use Rattle.std.specs.Prelude.{◌≡◌, ℕ, not, ◌==◌, if◌then◌else◌, List, length, find, Option, Some, None, option_map, unwrap_or, Result, Ok, Err, ⊤}
use Rattle.budget.specs.declared.budget.Budget.{Budget}
use Rattle.assertions.specs.declared.assertion.Assertion.{Assertion}
use Rattle.assertions.specs.Assertions.{is_true}
use Rattle.ballots.specs.Ballots.{BallotFile}
use Rattle.claims_file.specs.Claimed.{Claimed}
use Rattle.cover_checker.specs.Covers.{covered_is}
use Rattle.cover_checker.specs.Outcomes.{IsWinner}
use Rattle.cover_checker.specs.declared.cover.Verdict.{Verdict}
use Rattle.cover_checker.specs.declared.cover.Verdict.TheVariants.{Covered, Stands as OrderStands}
use Rattle.cover_checker.specs.declared.cover.CoverFault.{CoverFault}
use Rattle.cover_checker.specs.declared.cover.CoverFault.TheVariants.{Spent, SpentSets, Memory}
use Rattle.adoption.specs.Adopted.{adopted_file, each_once}
use Rattle.adoption.specs.declared.adoption.Adoption.{Adoption}
use Rattle.adoption.specs.declared.adoption.Adoption.TheVariants.{OtherWinner, Untrue, Stands, Adopted}

abbrev pub Answer : Type 0
Answer = Result Adoption CoverFault

abbrev pub other_winner : ℕ → Claimed → Option Answer
other_winner winner claims =
    if claims.winner == winner then None else Some (Ok (OtherWinner winner))

-- the first claim that isn't true of these records
abbrev pub untrue : List (List ℕ) → Claimed → Option Answer
untrue records claims =
    option_map (λ a. Ok (Untrue a)) (find (λ a. not (is_true records a)) claims.assertions)

abbrev pub unless_covered : Result Verdict CoverFault → Option Answer
unless_covered (Ok Covered) = None
unless_covered (Ok (OrderStands order)) = Some (Ok (Stands order))
unless_covered (Err fault) = Some (Err fault)

-- the order that no claim refutes, or a budget that isn't enough to find it
abbrev pub uncovered : Budget → ℕ → Claimed → Option Answer
uncovered budget n claims =
    unless_covered (covered_is n claims.winner (each_once n claims.assertions) budget)

-- the first finding; claims with no finding are adopted
abbrev pub adoption_is : Budget → BallotFile → Claimed → ℕ → Answer
adoption_is budget ballots claims winner =
    unwrap_or (other_winner winner claims)
    (unwrap_or (untrue ballots.rankings claims)
    (unwrap_or (uncovered budget (length ballots.candidates) claims)
    (Ok (Adopted (adopted_file ballots claims)))))

-- who won the contest, and the answer that follows from it
pub record IsAnswer (budget : Budget) (ballots : BallotFile) (claims : Claimed) (answer : Answer)
    : Type 0 where
  pub winner : ℕ
  pub tabulated : IsWinner (length ballots.candidates) ballots.rankings winner
  pub answer_is : adoption_is budget ballots claims winner ≡ answer

-- what a fault says; running out of memory says nothing
abbrev pub IsFault : Budget → BallotFile → Claimed → CoverFault → Type 0
IsFault budget ballots claims (Spent last) = IsAnswer budget ballots claims (Err (Spent last))
IsFault budget ballots claims (SpentSets sets) =
    IsAnswer budget ballots claims (Err (SpentSets sets))
IsFault budget ballots claims Memory = ⊤
