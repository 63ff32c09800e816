use Rattle.std.proofs.Common.{◌≡◌, ◌++◌, IfOk, ap, subst, sym, string_bytes, ◌∙◌}
use Rattle.manifest.specs.Cards.{card_id}
use Rattle.audit_report.specs.Sample.{draw_line}
use Rattle.audit_report.proofs.Cards.{id_there}
use Rattle.audit_report.proofs.sample.add_draw.Goals as goal

pub returns : goal.returns
returns c =
    subst (λ id. IfOk c.add_line.result (λ _. string_bytes c.add_line.new.text ≡ string_bytes c.args.text.now ++ draw_line c.args.k c.args.number id))
    (ap (λ batch. card_id (record { batch = batch; k = c.card-card.result.k })) c.text.ensures.same
    ∙ sym (id_there c.args.m.now c.args.number c.card-card.result c.card-card.ensures))
    c.add_line.ensures
