-- What is answered for votes is answered for the ballots that they come from.
use Rattle.std.proofs.Common.{◌≡◌, Bool, true, false, Ok}
use Rattle.std.specs.Bool.{MatchBool}
use Rattle.budget.specs.declared.budget.Budget.{Budget}
use Rattle.ballots.specs.Ballots.{BallotFile, votes_of}
use Rattle.assertion_file.specs.Content.{Content}
use Rattle.cover_checker.specs.Checks.{IsAnswer, Judges}
use Rattle.cover_checker.specs.Findings.{Answer, is_about}
use Rattle.cover_checker.specs.declared.checked.Checked.TheVariants.{OtherContest}

pub answer_there : (budget : Budget) (ballots : BallotFile) (file : Content) (answer : Answer) → IsAnswer budget (votes_of ballots) file answer →
    IsAnswer budget ballots file answer
answer_there budget ballots file answer = by (is_about ballots file) where
  by : (b : Bool) → MatchBool b (Judges budget (votes_of ballots) file answer) (answer ≡ Ok OtherContest) →
      MatchBool b (Judges budget ballots file answer) (answer ≡ Ok OtherContest)
  by true judged = record { winner = judged.winner; tabulated = judged.tabulated; answer_is = judged.answer_is }
  by false other = other
