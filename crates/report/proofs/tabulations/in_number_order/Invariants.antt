use Rattle.std.proofs.Common.{◌≡◌, filter}
use Rattle.irv_base.specs.Candidates.{candidates, is_in}
use Rattle.report.proofs.tabulations.in_number_order.Given as goal

abbrev pub invariant-loop-i : goal.invariant-loop-i
invariant-loop-i l = l.sorted.items ≡ filter (is_in l.list) (candidates l.i)
