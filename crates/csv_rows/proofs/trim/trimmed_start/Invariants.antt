use Rattle.std.proofs.Common.{◌≡◌, drop}
use Rattle.csv_rows.specs.Fields.{trimmed_start}
use Rattle.csv_rows.proofs.trim.trimmed_start.Given as goal

abbrev pub invariant-loop-i : goal.invariant-loop-i
invariant-loop-i l = trimmed_start (drop l.i l.text) ≡ trimmed_start l.text
