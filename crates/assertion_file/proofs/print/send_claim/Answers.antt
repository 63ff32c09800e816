use Rattle.std.proofs.Common.{◌≡◌, OnOk, ap, ap₂, subst, sym, ◌∙◌}
use Rattle.serde_json.specs.Events.{SendsValue}
use Rattle.assertion_file.specs.Ids.{ids_in}
use Rattle.assertion_file.specs.Text.{assertion_value, claim_value, ids_value, nen_value}
use Rattle.assertion_file.proofs.print.send_claim.Goals as goal

pub returns-in-Nen : goal.returns-in-Nen
returns-in-Nen g c =
    let ids = c.args.names.now in
    let claim = c.args.claim.now in
    let draws = c.args.draws in
    let rest = ids_value (ids_in ids c.in-Nen.rest) in
    let same : nen_value draws c.id_of-winner.result.now c.id_of-loser.result.now rest claim.margin ≡ claim_value ids (claim, draws) =
    ap₂ (λ winner loser. nen_value draws winner loser rest claim.margin) c.id_of-winner.ensures c.id_of-loser.ensures
    ∙ ap (λ a. assertion_value ids draws a claim.margin) (sym c.in-Nen.is) in
    subst
    (λ value. OnOk c.send_nen.result (SendsValue value (g.S.Serializer.written c.args.out.now) (g.S.Serializer.written c.send_nen.new.out))) same
    c.send_nen.ensures
