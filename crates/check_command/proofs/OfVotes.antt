-- What a check says of votes, it also says of the ballots that have these votes.
use Rattle.budget.specs.declared.budget.Budget.{Budget}
use Rattle.ballots.specs.Ballots.{BallotFile, votes_of}
use Rattle.assertion_file.specs.Content.{Content}
use Rattle.cover_checker.proofs.OfVotes.{answer_there}
use Rattle.cli_base.specs.Outcome.{Verdict}
use Rattle.check_command.specs.Check.{Checks}

pub checks_there : (budget : Budget) (ballots : BallotFile) (file : Content) (verdict : Verdict) → Checks budget (votes_of ballots) file verdict →
    Checks budget ballots file verdict
checks_there budget ballots file verdict (answer, is, told) = (answer, answer_there budget ballots file answer is, told)
