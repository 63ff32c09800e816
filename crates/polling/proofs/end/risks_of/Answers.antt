use Rattle.std.proofs.Common.{◌∙◌, arith}
use Rattle.polling.specs.Polls.{poll_risk}
use Rattle.polling.proofs.ValueCounts.{one-more}
use Rattle.polling.proofs.end.risks_of.Goals as goal

pub loop-j-preserved : goal.loop-j-preserved
loop-j-preserved c =
    c.in_ok-push.ensures.items
    ∙ one-more (poll_risk c.args.gamma) c.args.counts.now c.loop-j.risks.items c.loop-j.j (record { n0 = 0; n1 = 0; n2 = 0 }) c.poll_risk.result (omega arith)
    c.loop-j.invariant c.poll_risk.ensures.value
