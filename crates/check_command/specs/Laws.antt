-- How a check of a file that the checker accepts ends.
use Rattle.std.specs.Prelude.{◌≡◌, ◌↔◌, Ok}
use Rattle.budget.specs.declared.budget.Budget.{Budget}
use Rattle.ballots.specs.Ballots.{BallotFile}
use Rattle.assertion_file.specs.Content.{Content}
use Rattle.cover_checker.specs.Checks.{IsAnswer}
use Rattle.cover_checker.specs.declared.checked.Checked.TheVariants.{Accepted}
use Rattle.cli_base.specs.Outcome.{Verdict, Answered}
use Rattle.cli_base.specs.declared.outcome.AnswerKind.TheVariants.{Done}
use Rattle.check_command.specs.Check.{Checks, yes_text}

-- A check of a file that the checker accepts ends with yes, and with nothing else.
abbrev pub AcceptedIsYes : Type 0
AcceptedIsYes =
    (budget : Budget) (ballots : BallotFile) (file : Content) (verdict : Verdict) →
    IsAnswer budget ballots file (Ok Accepted) →
    Checks budget ballots file verdict ↔ (verdict ≡ Answered Done (yes_text file))
