use Rattle.std.proofs.Common.{rules, refl}
use Rattle.std.proofs.lemmas.Result.{on_ok_weaker}
use Rattle.serde.proofs.Events.{WritesEach-more, WritesSeq-ends}
use Rattle.assertion_file.proofs.Sent.{SendsId, ids_are_sent}
use Rattle.assertion_file.proofs.print.send_order.Goals as goal

pub loop-c-preserved : goal.loop-c-preserved
loop-c-preserved g c = WritesEach-more (SendsId c.args.names.now) _ _ _ _ _ _ c.loop-c-test.true c.c-item.is c.loop-c.invariant (search rules)

pub returns : goal.returns
returns g c =
    on_ok_weaker c.end_seq.result (λ ended.
    ids_are_sent c.args.names.now c.args.order.now _ _
    (WritesSeq-ends (SendsId c.args.names.now) _ _ _ _ _ _ _ _ refl (search rules) c.loop-c-test.false c.in_ok-begin_seq.ensures c.loop-c.invariant ended))
    c.end_seq.ensures
