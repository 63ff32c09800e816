use Rattle.cli_base.specs.Due.{due}
use Rattle.poll_command.proofs.Answered.{polled_as}
use Rattle.poll_command.proofs.poll.poll_of.Goals as goal

pub returns-in-Ok : goal.returns-in-Ok
returns-in-Ok c =
    polled_as c.args.task.now c.args.batches.now c.args.file.now c.args.seen.now c.cards.result c.in-Ok.end.counts.items c.in-Ok.end.risks.items
    c.in-Ok.end.confirmed (due c.poll_answer.result) c.cards.ensures.all c.in-Ok.ensures.counts c.in-Ok.ensures.risks c.in-Ok.ensures.confirmed
    c.in-Ok.ensures.all_seen c.poll_answer.ensures
