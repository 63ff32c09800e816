use Rattle.std.proofs.Common.{◌≡◌, ◌==◌, length, sym, ap, ap₂, ◌∙◌, arith, below_more}
use Rattle.std.specs.Cmp.Lexicographic.{pointwise}
use Rattle.session_state.specs.Sessions.{risks_of}
use Rattle.session_file.proofs.Printed.{all_printed, another, risk-at, too_few}
use Rattle.session_file.proofs.sound.has_risks.Goals as goal

pub returns-then-risks-margins : goal.returns-then-risks-margins
returns-then-risks-margins c =
    let counts = c.counts-counts.result.now in
    let same : length counts ≡ length c.args.margins.now = ap length c.counts-counts.ensures ∙ c.requires.counts in
    sym (ap₂ (λ rs cs. pointwise ◌==◌ rs (risks_of c.args.cards c.args.gamma c.args.margins.now cs)) (sym c.risks-risks.ensures) (sym c.counts-counts.ensures)
    ∙ too_few c.args.cards c.args.gamma c.args.margins.now counts same c.risks-risks.result.now c.if-risks-margins.true)

pub returns-then-risks-i : goal.returns-then-risks-i
returns-then-risks-i c =
    let counts = c.counts-counts.result.now in
    let same : length counts ≡ length c.args.margins.now = ap length c.counts-counts.ensures ∙ c.requires.counts in
    sym (ap₂ (λ rs cs. pointwise ◌==◌ rs (risks_of c.args.cards c.args.gamma c.args.margins.now cs)) (sym c.risks-risks.ensures) (sym c.counts-counts.ensures)
    ∙ another c.args.cards c.args.gamma c.args.margins.now counts same c.risks-risks.result.now c.loop-i.i _ c.loop-i-test.true
    (λ e. c.if-risks-i.true (e ∙ sym c.risk.ensures.value)))

pub loop-i-preserved : goal.loop-i-preserved
loop-i-preserved c =
    let counts = c.counts-counts.result.now in
    let same : length counts ≡ length c.args.margins.now = ap length c.counts-counts.ensures ∙ c.requires.counts in
    below_more _ _ c.loop-i.invariant
    (c.if-risks-i.false ∙ c.risk.ensures.value ∙ sym (risk-at c.args.cards c.args.gamma c.args.margins.now counts same c.loop-i.i _ c.loop-i-test.true))

pub returns : goal.returns
returns c =
    let counts = c.counts-counts.result.now in
    let same : length counts ≡ length c.args.margins.now = ap length c.counts-counts.ensures ∙ c.requires.counts in
    sym (ap₂ (λ rs cs. pointwise ◌==◌ rs (risks_of c.args.cards c.args.gamma c.args.margins.now cs)) (sym c.risks-risks.ensures) (sym c.counts-counts.ensures)
    ∙ all_printed c.args.cards c.args.gamma c.args.margins.now counts same c.risks-risks.result.now c.loop-i.i c.if-risks-margins.false
    (omega arith) c.loop-i.invariant)
