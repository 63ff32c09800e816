-- The result for claims over votes is also their result over the ballots that have these votes.
use Rattle.budget.specs.declared.budget.Budget.{Budget}
use Rattle.ballots.specs.Ballots.{BallotFile, votes_of}
use Rattle.claims_file.specs.Claimed.{Claimed}
use Rattle.cli_base.specs.Outcome.{Verdict}
use Rattle.adopt_command.specs.Adopt.{Adopts}

pub adopts_there : (budget : Budget) (ballots : BallotFile) (claims : Claimed) (verdict : Verdict) → Adopts budget (votes_of ballots) claims verdict →
    Adopts budget ballots claims verdict
adopts_there budget ballots claims verdict (answer, is, told) =
    (answer, record { winner = is.winner; tabulated = is.tabulated; answer_is = is.answer_is }, told)
