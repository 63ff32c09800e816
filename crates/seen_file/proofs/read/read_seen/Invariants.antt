use Rattle.std.proofs.Common.{length}
use Rattle.csv_rows.specs.Fields.{numbered, numbered_records}
use Rattle.seen_file.proofs.SoFar.{SeenSoFar}
use Rattle.seen_file.proofs.read.read_seen.Given as goal

abbrev pub invariant-records : goal.invariant-records
invariant-records l = SeenSoFar l.manifest l.candidates (numbered_records l.bytes) l.seen l.at (numbered l.rows)

abbrev pub decreases-records : goal.decreases-records
decreases-records l = length (numbered l.rows)
