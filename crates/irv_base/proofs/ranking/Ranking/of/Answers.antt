use Rattle.irv_base.proofs.Firsts.{firsts-step}
use Rattle.irv_base.proofs.ranking.Ranking.of.Goals as goal

pub loop-c-preserved : goal.loop-c-preserved
loop-c-preserved c =
    firsts-step c.args.candidates.now c.loop-c.c-index c.c-item.result c.loop-c.ranking c.push.new.self c.loop-c-test.true c.c-item.is c.loop-c.invariant
    c.push.ensures.added c.push.ensures.kept
