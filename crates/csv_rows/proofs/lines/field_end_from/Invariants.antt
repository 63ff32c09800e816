use Rattle.memchr.specs.Find.{Nowhere, Passes, is_byte3}
use Rattle.csv_rows.proofs.lines.field_end_from.Given as goal

-- no field ends before
abbrev pub invariant-loop-i : goal.invariant-loop-i
invariant-loop-i l = Nowhere (Passes (is_byte3 44 13 10) l.text) 0 l.i
