use Rattle.std.proofs.Common.{◌∙◌, ◌+◌, drop, get_or, sym, ap}
use Rattle.std.proofs.lemmas.List.{drop_more}
use Rattle.csv_rows.specs.Fields.{is_blank_record, trimmed_fields}
use Rattle.csv_rows.specs.Lines.{fields_in}
use Rattle.csv_rows.proofs.Blanks.{blank-none}
use Rattle.csv_rows.proofs.lines.is_blank_line.Goals as goal

pub returns-then-not-is_blank : goal.returns-then-not-is_blank
returns-then-not-is_blank c =
    let text = c.args.text.now in
    let i = c.loop-i.i in
    sym (blank-none (get_or text i 0) (drop (i + 1) text) (sym c.is_line_end.ensures ∙ c.if-is_line_end.false) (sym c.is_blank.ensures
    ∙ c.if-not-is_blank.true))
    ∙ ap (λ rest. is_blank_record (trimmed_fields (fields_in rest))) (sym (drop_more text i 0 c.loop-i-test.true)) ∙ c.loop-i.invariant
