use Rattle.std.proofs.Common.{◌<◌, ◌∙◌, length, refl, sym, arith}
use Rattle.std.specs.Prelude.{option_map, IfSome}
use Rattle.std.proofs.lemmas.Result.{on_ok_weaker}
use Rattle.serde.proofs.Events.{WritesEach-more, WritesSeq-ends}
use Rattle.serde_json.specs.Events.{SendsValue}
use Rattle.assertion_file.specs.Text.{claim_value, told_of}
use Rattle.assertion_file.proofs.Sent.{array_is_sent}
use Rattle.assertion_file.proofs.Told.{HasEach, draws-shown, each-shown, length-told, told-at}
use Rattle.assertion_file.proofs.print.send_claims.Goals as goal

pub loop-i-preserved : goal.loop-i-preserved
loop-i-preserved g c =
    let plan = option_map (λ facts. facts.now) c.args.plan in
    let claims = c.args.claims.now in
    let each : IfSome plan (HasEach claims) = each-shown (λ facts. facts.now) c.args.plan claims c.requires.each in
    let within : c.loop-i.i < length (told_of plan claims) = omega (arith, length-told plan claims each, c.loop-i-test.true) in
    WritesEach-more (λ told. SendsValue (claim_value c.args.names.now told)) (told_of plan claims) c.loop-i.i _ _ _ _
    within (told-at plan claims c.loop-i.i _ _ each c.loop-i-test.true c.index-claims-i.is
    (c.draws_at.ensures ∙ draws-shown (λ facts. facts.now) c.args.plan c.loop-i.i)) c.loop-i.invariant c.in_ok-send_claim.ensures

pub returns : goal.returns
returns g c =
    let plan = option_map (λ facts. facts.now) c.args.plan in
    let claims = c.args.claims.now in
    let each : IfSome plan (HasEach claims) = each-shown (λ facts. facts.now) c.args.plan claims c.requires.each in
    on_ok_weaker c.end_seq.result (λ ended.
    array_is_sent (claim_value c.args.names.now) (told_of plan claims) _ _
    (WritesSeq-ends (λ told. SendsValue (claim_value c.args.names.now told)) (told_of plan claims) (told_of plan claims) c.loop-i.i _ _ _ _ _ refl
    (sym (length-told plan claims each)) (omega (arith, length-told plan claims each, c.loop-i-test.false))
    c.in_ok-begin_seq.ensures c.loop-i.invariant ended))
    c.end_seq.ensures
