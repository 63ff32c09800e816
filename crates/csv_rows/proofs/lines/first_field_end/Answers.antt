use Rattle.std.proofs.Common.{arith}
use Rattle.memchr.specs.Find.{is_byte3}
use Rattle.csv_rows.proofs.Marks.{seen-all, seen-first}
use Rattle.csv_rows.proofs.lines.first_field_end.Goals as goal

pub returns-then-end-lt-FIELD_LANES : goal.returns-then-end-lt-FIELD_LANES
returns-then-end-lt-FIELD_LANES c =
    let look = c.bytes_in_field-end in
    seen-first (is_byte3 44 13 10) c.args.text.now 0 16 look.result (omega (arith, c.if-text-lt-FIELD_LANES.false)) look.ensures (λ k low high. absurd (omega (arith, high)))
    look.result (omega arith) c.if-end-lt-FIELD_LANES.true

pub field_end_from-requires-2-clause-before : goal.field_end_from-requires-2-clause-before
field_end_from-requires-2-clause-before c =
    let look = c.bytes_in_field-end in
    seen-all (is_byte3 44 13 10) c.args.text.now 0 16 look.result (omega (arith, c.if-text-lt-FIELD_LANES.false)) look.ensures (λ k low high. absurd (omega (arith, high)))
    16 (omega arith) (λ less. omega (arith, less, c.if-end-lt-FIELD_LANES.false))
