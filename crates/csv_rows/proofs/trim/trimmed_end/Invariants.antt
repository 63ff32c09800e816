use Rattle.std.proofs.Common.{◌≡◌, ◌≤◌, length, take}
use Rattle.csv_rows.specs.Fields.{trimmed_end}
use Rattle.csv_rows.proofs.trim.trimmed_end.Given as goal

abbrev pub invariant-loop-len : goal.invariant-loop-len
invariant-loop-len l = record {
  within : l.len ≤ length l.text;
  same : trimmed_end (take l.len l.text) ≡ trimmed_end l.text;
}

abbrev pub decreases-loop-len : goal.decreases-loop-len
decreases-loop-len l = l.len
