use Rattle.std.proofs.Common.{◌+◌, [], ◌++◌, ap, ap₂, arith, string_bytes, ◌∙◌}
use Rattle.sampler.specs.Draws.{drawn_card}
use Rattle.audit_report.specs.Sample.{draw_line, id_of_card, line_of_draw}
use Rattle.audit_report.proofs.Lines.{line_more}
use Rattle.audit_report.proofs.sample.sample_table.Goals as goal

pub loop-done-preserved : goal.loop-done-preserved
loop-done-preserved c =
    let m = c.args.m.now in
    let k = c.loop-done.done + 1 in
    line_more (line_of_draw m c.args.seed.now) 1 c.loop-done.done k [] (string_bytes c.loop-done.text) (string_bytes c.add_draw.new.text)
    (omega arith) c.loop-done.invariant
    (c.in_ok-add_draw.ensures ∙ ap (λ card. string_bytes c.loop-done.text ++ draw_line k card (id_of_card m card))
    (c.draw.ensures.card ∙ ap₂ (λ n cards. drawn_card c.args.seed.now n cards) c.from.ensures c.cards-cards.ensures.all))
