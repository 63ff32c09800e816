use Rattle.std.proofs.Common.{◌+◌, ◌++◌, get_or, false, string_bytes, arith, slice_index, ap₂, ◌∙◌}
use Rattle.km_risk.specs.Counts.{clean}
use Rattle.audit_report.specs.Session.{claim_in, claim_line}
use Rattle.audit_report.proofs.Lines.{line_more}
use Rattle.audit_report.proofs.session.add_claims.Goals as goal

pub loop-i-preserved : goal.loop-i-preserved
loop-i-preserved c =
    let i = c.loop-i.i in
    let margins = c.args.margins.now in
    let confirmed = c.args.confirmed.now in
    line_more (claim_in margins c.args.round.now (λ claim. get_or confirmed claim false)) 0 i i (string_bytes c.args.text.now) (string_bytes c.loop-i.text)
    (string_bytes c.add_claim.new.text)
    (omega arith) c.loop-i.invariant
    (c.in_ok-add_claim.ensures
    ∙ ap₂ (λ counts risks. string_bytes c.loop-i.text ++ claim_line (i + 1) (slice_index margins i) (get_or counts i (clean 0)) (slice_index risks i)
    (get_or confirmed i false))
    c.counts-counts.ensures c.risks-risks.ensures)
