-- What the answer of `check` is.
use Rattle.std.specs.Prelude.{◌≡◌, ℕ, List, [], ◌∷◌, length, Option, Some, None, Ok, Err, ⊤}
use Rattle.std.specs.Bool.{MatchBool}
use Rattle.budget.specs.declared.budget.Budget.{Budget}
use Rattle.ballots.specs.Ballots.{BallotFile}
use Rattle.assertion_file.specs.Content.{Content}
use Rattle.cover_checker.specs.Outcomes.{IsWinner}
use Rattle.cover_checker.specs.Findings.{Answer, is_about, other_winner, other_margin, uncovered, other_smallest, elected, harder, other_draws}
use Rattle.cover_checker.specs.declared.checked.Checked.TheVariants.{OtherContest, Accepted}
use Rattle.cover_checker.specs.declared.checked.CheckFault.{CheckFault}
use Rattle.cover_checker.specs.declared.checked.CheckFault.TheVariants.{Spent, SpentSets, Memory}

-- the findings in a file about a contest with these records and this winner, in the order in which they are judged
abbrev pub findings : Budget → List (List ℕ) → Content → ℕ → List (Option Answer)
findings budget records file winner =
    other_winner winner file ∷
    other_margin records file ∷
    uncovered budget file ∷
    other_smallest file ∷
    elected file ∷
    harder records file ∷
    other_draws file ∷
    []

abbrev pub first_found : List (Option Answer) → Answer → Answer
first_found [] otherwise = otherwise
first_found (Some answer ∷ more) otherwise = answer
first_found (None ∷ more) otherwise = first_found more otherwise

-- the first finding; a file with no finding is accepted
abbrev pub checked_is : Budget → List (List ℕ) → Content → ℕ → Answer
checked_is budget records file winner =
    first_found (findings budget records file winner) (Ok Accepted)

-- who won the contest, and the answer that follows from it
pub record Judges (budget : Budget) (ballots : BallotFile) (file : Content) (answer : Answer)
    : Type 0 where
  pub winner : ℕ
  pub tabulated : IsWinner (length ballots.candidates) ballots.rankings winner
  pub answer_is : checked_is budget ballots.rankings file winner ≡ answer

-- the first question is whether the file is about the contest
abbrev pub IsAnswer : Budget → BallotFile → Content → Answer → Type 0
IsAnswer budget ballots file answer =
    MatchBool (is_about ballots file) (Judges budget ballots file answer) (answer ≡ Ok OtherContest)

-- what a fault says; running out of memory says nothing
abbrev pub IsFault : Budget → BallotFile → Content → CheckFault → Type 0
IsFault budget ballots file (Spent last) = IsAnswer budget ballots file (Err (Spent last))
IsFault budget ballots file (SpentSets sets) = IsAnswer budget ballots file (Err (SpentSets sets))
IsFault budget ballots file Memory = ⊤
