use Rattle.std.proofs.Common.{take}
use Rattle.serde.specs.Event.{WritesEach}
use Rattle.assertion_file.proofs.Sent.{SendsId}
use Rattle.assertion_file.proofs.print.send_order.Given as goal

abbrev pub invariant-loop-c : goal.invariant-loop-c
invariant-loop-c g l = WritesEach (SendsId l.names) (take l.c-index l.order) (g.S.Serializer.written l.initial.out) (g.S.Serializer.written l.out)
