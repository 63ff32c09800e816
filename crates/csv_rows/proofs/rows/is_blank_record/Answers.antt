use Rattle.std.proofs.Common.{◌∙◌, ◌==◌, length, sym, ap, arith}
use Rattle.csv.specs.Records.{fields_of}
use Rattle.csv_rows.specs.Fields.{trimmed_fields, is_blank_record}
use Rattle.csv_rows.proofs.Single.{one_field, no_only}
use Rattle.csv_rows.proofs.rows.is_blank_record.Goals as goal

pub returns-in-Some : goal.returns-in-Some
returns-in-Some c =
    let e = one_field (fields_of c.args.row.now) c.in-Some.field.now (omega (arith, c.len.ensures, c.if-len-ne1.false)) (sym c.in-Some.ensures.value) in
    c.is_empty.ensures ∙ ap (λ f. length f == 0) c.trimmed.ensures ∙ ap (λ fields. is_blank_record (trimmed_fields fields)) (sym e)

pub returns-in-None : goal.returns-in-None
returns-in-None c = absurd (no_only (fields_of c.args.row.now) (sym c.in-None.ensures.value) (omega (arith, c.len.ensures, c.if-len-ne1.false)))
