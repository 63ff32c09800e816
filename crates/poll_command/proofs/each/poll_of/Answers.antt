use Rattle.std.proofs.Common.{ap, length, ◌∙◌}
use Rattle.cli_base.specs.Due.{due}
use Rattle.poll_command.proofs.EachAnswered.{as_many_ends, gamma_is, polled_as}
use Rattle.poll_command.proofs.each.poll_of.Goals as goal

pub poll_each-requires-clause-gamma : goal.poll_each-requires-clause-gamma
poll_each-requires-clause-gamma c = gamma_is c.args.task.now.gamma c.requires.gamma

pub each_answer-requires : goal.each_answer-requires
each_answer-requires c =
    ap length c.in-Ok.ensures.ends ∙ as_many_ends c.args.task.now c.args.batches.now c.args.file.now c.args.seen.now

pub returns-in-Ok : goal.returns-in-Ok
returns-in-Ok c =
    polled_as c.args.task.now c.args.batches.now c.args.file.now c.args.seen.now c.cards.result c.in-Ok.end.claims.items c.in-Ok.end.confirmed
    (due c.each_answer.result) c.cards.ensures.all c.in-Ok.ensures.ends c.in-Ok.ensures.confirmed c.in-Ok.ensures.all_seen c.each_answer.ensures
