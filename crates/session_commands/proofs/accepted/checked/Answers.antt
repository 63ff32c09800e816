use Rattle.std.proofs.Common.{subst}
use Rattle.ballots.specs.Ballots.{BallotFile, votes_of}
use Rattle.cli_base.specs.Due.{due, IsOneOrMemory}
use Rattle.cli_base.proofs.Ended.{told_among}
use Rattle.check_command.specs.Check.{Checks}
use Rattle.check_command.proofs.OfVotes.{checks_there}
use Rattle.session_commands.proofs.accepted.checked.Goals as goal

pub returns : goal.returns
returns g c =
    let budget = c.args.budget in
    let ballots = c.args.ballots.now in
    let file = c.args.file.now in
    told_among (Checks budget (votes_of ballots) file) (Checks budget ballots file) (due c.check.result) (checks_there budget ballots file)
    (subst (λ (votes : BallotFile). IsOneOrMemory (Checks budget votes file) (due c.check.result)) c.in_ok-votes.ensures c.check.ensures)
