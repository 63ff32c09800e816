use Rattle.std.proofs.Common.{◌≡◌, length}
use Rattle.csv_rows.specs.Fields.{numbered}
use Rattle.csv_rows.proofs.rows.Rows.read_numbered.Given as goal

abbrev pub invariant-loop-row : goal.invariant-loop-row
invariant-loop-row l = numbered l.self ≡ numbered l.fn.self

abbrev pub decreases-loop-row : goal.decreases-loop-row
decreases-loop-row l = length l.self
