-- What a trim says of votes, it also says of the ballots that have these votes.
use Rattle.budget.specs.declared.budget.Budget.{Budget}
use Rattle.ballots.specs.Ballots.{BallotFile, votes_of}
use Rattle.assertion_file.specs.Content.{Content}
use Rattle.cover_checker.proofs.OfVotes.{answer_there}
use Rattle.cli_base.specs.Outcome.{Verdict}
use Rattle.trim_command.specs.Trim.{Trims}

pub trims_there : (budget : Budget) (ballots : BallotFile) (file : Content) (verdict : Verdict) → Trims budget (votes_of ballots) file verdict →
    Trims budget ballots file verdict
trims_there budget ballots file verdict (answer, is, told) = (answer, answer_there budget ballots file answer is, told)
