use Rattle.std.proofs.Common.{arith}
use Rattle.irv_base.proofs.Ranges.{length-filter-more}
use Rattle.irv_base.proofs.cand_set.CandSet.len.Goals as goal

pub loop-c-preserved : goal.loop-c-preserved
loop-c-preserved c = grind (arith, length-filter-more)
