use Rattle.std.proofs.Common.{◌≡◌, IsTrue, length}
use Rattle.csv.specs.Reading.{default_config, records}
use Rattle.csv_rows.specs.Fields.{numbered}
use Rattle.csv_rows.specs.Lines.{is_plain}
use Rattle.csv_rows.proofs.plain_rows.next_line.Given as goal

-- the lines that were skipped have no number
abbrev pub invariant-loop-left : goal.invariant-loop-left
invariant-loop-left l = record {
  plain : IsTrue (is_plain l.left);
  same : numbered (records default_config l.text) ≡ numbered (records default_config l.left);
}

abbrev pub decreases-loop-left : goal.decreases-loop-left
decreases-loop-left l = length l.left
