use Rattle.std.proofs.Common.{length}
use Rattle.csv_rows.specs.Fields.{numbered, numbered_records}
use Rattle.contest_set.proofs.Entries.{SeenSoFar}
use Rattle.contest_set.proofs.read.read_seen_by.Given as goal

abbrev pub invariant-records : goal.invariant-records
invariant-records l = SeenSoFar l.m l.list (numbered_records l.bytes) l.seen.items l.at (numbered l.rows)

abbrev pub decreases-records : goal.decreases-records
decreases-records l = length (numbered l.rows)
