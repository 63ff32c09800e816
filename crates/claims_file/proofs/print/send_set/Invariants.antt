use Rattle.std.proofs.Common.{filter}
use Rattle.serde.specs.Event.{WritesEach}
use Rattle.irv_base.specs.Candidates.{candidates, has}
use Rattle.assertion_file.proofs.Sent.{SendsId}
use Rattle.claims_file.proofs.print.send_set.Given as goal

abbrev pub invariant-loop-c : goal.invariant-loop-c
invariant-loop-c g l = WritesEach (SendsId l.names) (filter (has l.set) (candidates l.c)) (g.S.Serializer.written l.initial.out) (g.S.Serializer.written l.out)
