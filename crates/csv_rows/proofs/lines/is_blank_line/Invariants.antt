use Rattle.std.proofs.Common.{◌≡◌, drop}
use Rattle.csv_rows.specs.Fields.{is_blank_record, trimmed_fields}
use Rattle.csv_rows.specs.Lines.{fields_in}
use Rattle.csv_rows.proofs.lines.is_blank_line.Given as goal

-- what was skipped is blank
abbrev pub invariant-loop-i : goal.invariant-loop-i
invariant-loop-i l = is_blank_record (trimmed_fields (fields_in (drop l.i l.text))) ≡ is_blank_record (trimmed_fields (fields_in l.text))
