use Rattle.std.proofs.Common.{◌∙◌, ◌+◌, ◌∷◌, [], drop, sym, ap, ap₂, add-one}
use Rattle.csv_rows.specs.Fields.{trimmed_fields}
use Rattle.csv_rows.specs.Lines.{fields_in}
use Rattle.csv_rows.proofs.Bare.{bare, none-ends}
use Rattle.csv_rows.proofs.Cuts.{cut-comma, cut-line, rest-from}
use Rattle.csv_rows.proofs.cut.behind_bare.Goals as goal

pub returns-then-text-end-ne-COMMA-clause-fields : goal.returns-then-text-end-ne-COMMA-clause-fields
returns-then-text-end-ne-COMMA-clause-fields c =
    let text = c.args.text.now in
    let end = c.args.end in
    let found = c.requires in
    ap trimmed_fields (cut-line text end found.0.high (none-ends text end found.0.before) found.1 c.if-text-end-ne-COMMA.true)
    ∙ ap (λ field. field ∷ []) (bare text end found.0.before)

pub returns-clause-fields : goal.returns-clause-fields
returns-clause-fields c =
    let text = c.args.text.now in
    let end = c.args.end in
    let found = c.requires in
    ap trimmed_fields (cut-comma text end found.0.high (none-ends text end found.0.before) c.if-text-end-ne-COMMA.false)
    ∙ ap₂ (λ field rest. field ∷ trimmed_fields (fields_in rest)) (bare text end found.0.before)
    (sym (rest-from (end + 1) text ∙ ap (λ n. drop n text) (add-one end)))
