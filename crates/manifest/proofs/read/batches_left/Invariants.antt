use Rattle.std.proofs.Common.{length}
use Rattle.csv_rows.specs.Fields.{numbered}
use Rattle.manifest.proofs.SoFar.{BatchesSoFar}
use Rattle.manifest.proofs.read.batches_left.Given as goal

abbrev pub invariant-records : goal.invariant-records
invariant-records l = BatchesSoFar (numbered l.fn.rows) l.ids l.counts.items l.firsts.items l.cards (numbered l.rows)

abbrev pub decreases-records : goal.decreases-records
decreases-records l = length (numbered l.rows)
