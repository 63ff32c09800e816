-- The laws of the commands on sessions.
use Rattle.std.specs.Prelude.{◌↔◌, Ok, IsTrue}
use Rattle.budget.specs.declared.budget.Budget.{Budget}
use Rattle.ballots.specs.Ballots.{BallotFile}
use Rattle.assertion_file.specs.Content.{Content}
use Rattle.cover_checker.specs.Checks.{IsAnswer}
use Rattle.cover_checker.specs.declared.checked.Checked.TheVariants.{Accepted}
use Rattle.session_commands.specs.Accepted.{is_accepted}

-- the test of acceptance is the checker's
abbrev pub AcceptanceIsDecided : Type 0
AcceptanceIsDecided =
    (budget : Budget) (ballots : BallotFile) (file : Content) →
    (IsTrue (is_accepted budget ballots file) ↔ IsAnswer budget ballots file (Ok Accepted))
