use Rattle.std.proofs.Common.{◌≡◌, filter}
use Rattle.irv_base.specs.Candidates.{candidates, has}
use Rattle.report.proofs.text.members.Given as goal

abbrev pub invariant-loop-i : goal.invariant-loop-i
invariant-loop-i l = l.members.items ≡ filter (has l.set) (candidates l.i)
