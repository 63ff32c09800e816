use Rattle.std.proofs.Common.{◌≡◌, ◌≤◌, ◌+◌, drop, length}
use Rattle.csv_rows.specs.Lines.{fields_in}
use Rattle.csv_rows.proofs.lines.field_count.Given as goal

-- the fields that ended, and those from here on, one of which is the last that ended no further than here
abbrev pub invariant-loop-i : goal.invariant-loop-i
invariant-loop-i l = record {
  all : l.n + length (fields_in (drop l.i l.text)) ≡ length (fields_in l.text) + 1;
  few : l.n ≤ l.i + 1;
}
