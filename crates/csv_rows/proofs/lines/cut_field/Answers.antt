use Rattle.std.proofs.Common.{◌∙◌, ◌+◌, ◌∷◌, drop, take, sym, ap, add-one, ◌≡◌, arith, length}
use Rattle.std.proofs.lemmas.List.{length-take-le}
use Rattle.csv_rows.specs.Lines.{fields_in}
use Rattle.csv_rows.proofs.Cuts.{cut-comma, cut-line, cut-none, rest-from}
use Rattle.csv_rows.proofs.lines.cut_field.Goals as goal

pub returns-in_default-clause-fields : goal.returns-in_default-clause-fields
returns-in_default-clause-fields c = cut-none c.args.text.now c.in_default.ensures

pub returns-then-text-end-ne-COMMA-clause-fields : goal.returns-then-text-end-ne-COMMA-clause-fields
returns-then-text-end-ne-COMMA-clause-fields c =
    let found = c.in-Some.ensures in
    cut-line c.args.text.now c.in-Some.end found.0.high found.0.before found.1 c.if-text-end-ne-COMMA.true

pub returns-clause-fields : goal.returns-clause-fields
returns-clause-fields c =
    let text = c.args.text.now in
    let end = c.in-Some.end in
    let found = c.in-Some.ensures in
    cut-comma text end found.0.high found.0.before c.if-text-end-ne-COMMA.false
    ∙ ap (λ rest. take end text ∷ fields_in rest) (sym (rest-from (end + 1) text ∙ ap (λ n. drop n text) (add-one end)))

pub returns-clause-behind : goal.returns-clause-behind
returns-clause-behind c =
    let text = c.args.text.now in
    let end = c.in-Some.end in
    let long : length (take end text) ≡ end = length-take-le end text (omega (arith, c.in-Some.ensures.0.high)) in
    rest-from (end + 1) text ∙ ap (λ n. drop (n + 1) text) (sym long)
