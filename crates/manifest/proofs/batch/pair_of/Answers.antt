use Rattle.std.proofs.Common.{◌∙◌, sym, ap, arith, refl}
use Rattle.csv.specs.Records.{fields_of}
use Rattle.csv_rows.specs.Fields.{trimmed_fields}
use Rattle.manifest.proofs.Pairs.{two_fields, no_first, no_second, always}
use Rattle.manifest.proofs.batch.pair_of.Goals as goal

pub returns-in_err-get-clause-not_two : goal.returns-in_err-get-clause-not_two
returns-in_err-get-clause-not_two c = always c.from_residual.result (no_first (fields_of c.args.row.now) (sym c.in_err-get.ensures.value))

pub returns-in_err-get-2-clause-not_two : goal.returns-in_err-get-2-clause-not_two
returns-in_err-get-2-clause-not_two c = always c.from_residual-in_err-get-2.result (no_second (fields_of c.args.row.now) (sym c.in_err-get-2.ensures.value))

pub returns-clause-two : goal.returns-clause-two
returns-clause-two c =
    let e = two_fields (fields_of c.args.row.now) c.in_ok-get.field-0.now c.in_ok-get-2.field-0.now (omega (arith, c.len.ensures, c.if-len-ne2.false))
    (sym c.in_ok-get.ensures.value) (sym c.in_ok-get-2.ensures.value) in
    ap trimmed_fields e ∙ rw (c.trimmed.ensures, c.trimmed-2.ensures) refl
