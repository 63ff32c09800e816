use Rattle.session_commands.proofs.Checked.{yes, no}
use Rattle.session_commands.proofs.accepted.unless_accepted.Goals as goal

pub returns-in-Done-clause-accepted : goal.returns-in-Done-clause-accepted
returns-in-Done-clause-accepted g c =
    yes c.args.budget c.args.ballots.now c.args.file.now c.in_ok-answer.answer c.in_ok-answer.ensures c.in-Done.is

pub returns-in_default-clause-accepted : goal.returns-in_default-clause-accepted
returns-in_default-clause-accepted g c =
    no c.args.budget c.args.ballots.now c.args.file.now c.in_ok-answer.answer c.in_ok-answer.ensures c.in_default.not-Done
