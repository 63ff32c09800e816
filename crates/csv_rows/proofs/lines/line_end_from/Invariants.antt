use Rattle.memchr.specs.Find.{Nowhere, Passes, is_byte2}
use Rattle.csv_rows.proofs.lines.line_end_from.Given as goal

-- no line ends before
abbrev pub invariant-loop-i : goal.invariant-loop-i
invariant-loop-i l = Nowhere (Passes (is_byte2 13 10) l.text) 0 l.i
