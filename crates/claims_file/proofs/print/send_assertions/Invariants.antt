use Rattle.std.proofs.Common.{take}
use Rattle.serde.specs.Event.{WritesEach}
use Rattle.serde_json.specs.Events.{SendsValue}
use Rattle.claims_file.specs.Text.{assertion_value}
use Rattle.claims_file.proofs.print.send_assertions.Given as goal

abbrev pub invariant-loop-assertion : goal.invariant-loop-assertion
invariant-loop-assertion g l = WritesEach (λ a. SendsValue (assertion_value l.names a)) (take l.assertion-index l.assertions)
    (g.S.Serializer.written l.initial.out) (g.S.Serializer.written l.out)
