use Rattle.std.proofs.Common.{◌≡◌, OnOk, ap, ap₂, subst, sym, ◌∙◌}
use Rattle.serde_json.specs.Events.{SendsValue}
use Rattle.assertion_file.specs.Ids.{ids_in}
use Rattle.assertion_file.specs.Text.{ids_value}
use Rattle.claims_file.specs.Text.{assertion_value, nen_value}
use Rattle.claims_file.proofs.print.send_assertion.Goals as goal

pub returns-in-Nen : goal.returns-in-Nen
returns-in-Nen g c =
    let ids = c.args.names.now in
    let rest = ids_value (ids_in ids c.in-Nen.rest) in
    let same : nen_value c.id_of-winner.result.now c.id_of-loser.result.now rest ≡ assertion_value ids c.args.assertion.now =
    ap₂ (λ winner loser. nen_value winner loser rest) c.id_of-winner.ensures c.id_of-loser.ensures
    ∙ ap (assertion_value ids) (sym c.in-Nen.is) in
    subst
    (λ value. OnOk c.send_nen.result (SendsValue value (g.S.Serializer.written c.args.out.now) (g.S.Serializer.written c.send_nen.new.out))) same
    c.send_nen.ensures
