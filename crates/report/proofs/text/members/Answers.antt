use Rattle.std.proofs.Common.{◌∙◌}
use Rattle.irv_base.specs.Candidates.{has}
use Rattle.report.proofs.Lists.{chosen_more}
use Rattle.report.proofs.text.members.Goals as goal

pub loop-i-preserved : goal.loop-i-preserved
loop-i-preserved c = c.in_ok-choose.ensures ∙ chosen_more (has c.args.set) c.loop-i.i c.loop-i.members.items c.has.result c.has.ensures c.loop-i.invariant
