use Rattle.std.proofs.Common.{take}
use Rattle.certifier.specs.InOrder.{AreMarks}
use Rattle.certifier.proofs.in_order.marks.Given as goal

abbrev pub invariant-loop-place : goal.invariant-loop-place
invariant-loop-place l = AreMarks l.list (take l.place l.list) l.marks.items
