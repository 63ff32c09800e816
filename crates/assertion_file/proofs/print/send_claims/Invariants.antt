use Rattle.std.proofs.Common.{take}
use Rattle.std.specs.Prelude.{option_map}
use Rattle.serde.specs.Event.{WritesEach}
use Rattle.serde_json.specs.Events.{SendsValue}
use Rattle.assertion_file.specs.Text.{claim_value, told_of}
use Rattle.assertion_file.proofs.print.send_claims.Given as goal

abbrev pub invariant-loop-i : goal.invariant-loop-i
invariant-loop-i g l = WritesEach (λ told. SendsValue (claim_value l.names told)) (take l.i (told_of (option_map (λ facts. facts.now) l.plan) l.claims))
    (g.S.Serializer.written l.initial.out) (g.S.Serializer.written l.out)
