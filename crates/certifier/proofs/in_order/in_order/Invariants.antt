use Rattle.std.proofs.Common.{◌≡◌, ◌++◌, drop}
use Rattle.certifier.proofs.InOrder.{claims_of}
use Rattle.certifier.proofs.in_order.in_order.Given as goal

abbrev pub invariant-loop-i : goal.invariant-loop-i
invariant-loop-i l = l.claims.items ++ claims_of l.list (drop l.i l.marks.items) ≡ claims_of l.list l.marks.items
