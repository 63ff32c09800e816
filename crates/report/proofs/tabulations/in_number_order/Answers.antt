use Rattle.std.proofs.Common.{◌∙◌}
use Rattle.irv_base.specs.Candidates.{is_in}
use Rattle.report.proofs.Lists.{chosen_more}
use Rattle.report.proofs.tabulations.in_number_order.Goals as goal

pub loop-i-preserved : goal.loop-i-preserved
loop-i-preserved c = c.in_ok-choose.ensures ∙ chosen_more (is_in c.args.list.now) c.loop-i.i c.loop-i.sorted.items c.is_in.result c.is_in.ensures
    c.loop-i.invariant
