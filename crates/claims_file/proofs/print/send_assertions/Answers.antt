use Rattle.std.proofs.Common.{rules, refl}
use Rattle.std.proofs.lemmas.Result.{on_ok_weaker}
use Rattle.serde.proofs.Events.{WritesEach-more, WritesSeq-ends}
use Rattle.serde_json.specs.Events.{SendsValue}
use Rattle.assertion_file.proofs.Sent.{array_is_sent}
use Rattle.claims_file.specs.Text.{assertion_value}
use Rattle.claims_file.proofs.print.send_assertions.Goals as goal

pub loop-assertion-preserved : goal.loop-assertion-preserved
loop-assertion-preserved g c =
    WritesEach-more (λ a. SendsValue (assertion_value c.args.names.now a)) _ _ _ _ _ _ c.loop-assertion-test.true c.assertion-item.is
    c.loop-assertion.invariant c.in_ok-send_assertion.ensures

pub returns : goal.returns
returns g c =
    on_ok_weaker c.end_seq.result (λ ended.
    array_is_sent (assertion_value c.args.names.now) c.args.assertions.now _ _
    (WritesSeq-ends (λ a. SendsValue (assertion_value c.args.names.now a)) _ _ _ _ _ _ _ _ refl (search rules)
    c.loop-assertion-test.false c.in_ok-begin_seq.ensures c.loop-assertion.invariant ended))
    c.end_seq.ensures
