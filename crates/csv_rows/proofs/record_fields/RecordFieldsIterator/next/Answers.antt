use Rattle.std.proofs.Common.{◌∙◌, ◌+◌, ◌∷◌, drop, sym, ap, arith}
use Rattle.csv.specs.Records.{fields_of}
use Rattle.csv_rows.specs.Fields.{trimmed_fields}
use Rattle.csv_rows.proofs.Dropped.{drop-field, drop-none}
use Rattle.csv_rows.proofs.record_fields.RecordFieldsIterator.next.Goals as goal

pub returns-in_err-field-clause-steps : goal.returns-in_err-field-clause-steps
returns-in_err-field-clause-steps c =
    let e = sym c.self.view_is ∙ ap trimmed_fields (drop-none (fields_of c.self.inside.row.now) c.self.inside.at (sym c.in_err-field.ensures.value)) in
    rw c.from_residual.ensures (e, e)

pub returns-clause-steps : goal.returns-clause-steps
returns-clause-steps c =
    sym c.self.view_is ∙ ap trimmed_fields (drop-field (fields_of c.self.inside.row.now) c.self.inside.at c.in_ok-field.field.now
    (sym c.in_ok-field.ensures.value))
    ∙ ap (λ first. first ∷ trimmed_fields (drop (c.self.inside.at + 1) (fields_of c.self.inside.row.now))) (sym c.trimmed.ensures)

pub returns-clause-goes : goal.returns-clause-goes
returns-clause-goes c =
    let e = sym c.self.view_is ∙ ap trimmed_fields (drop-field (fields_of c.self.inside.row.now) c.self.inside.at c.in_ok-field.field.now
    (sym c.in_ok-field.ensures.value)) in
    rw e (record { on = λ _. (tt, tt, omega arith); keeps = tt; rests = λ _. tt })
