use Rattle.std.proofs.Common.{rules, pos, slice_index, to_z-of_z, w64, ◌-ℤ◌, ◌∙◌, ◌≡◌, SFits}
use Rattle.assertions.proofs.Rows.{nen_of_row}
use Rattle.assertions.proofs.margins.nen_margin.Goals as goal

pub returns : goal.returns
returns c n rest records has proper =
    let fits : SFits w64 c.lead.result = search rules in
    let led : c.lead.result ≡ pos (slice_index c.args.row.now c.args.w) -ℤ pos (slice_index c.args.row.now c.args.l) = search rules in
    to_z-of_z fits ∙ led ∙ nen_of_row c.args.row.now n records c.args.w c.args.l rest has proper
