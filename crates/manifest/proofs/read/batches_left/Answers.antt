use Rattle.std.proofs.Common.{◌∙◌, sym, arith}
use Rattle.csv.specs.Records.{fields_of}
use Rattle.csv_rows.specs.Fields.{numbered, trimmed_fields}
use Rattle.manifest.proofs.SoFar.{goes_on, length-le-sum}
use Rattle.manifest.proofs.read.batches_left.Goals as goal

pub overflow_cast-len : goal.overflow_cast-len
overflow_cast-len c = let i = c.records.invariant in omega (
  arith,
  i.batches.most,
  length-le-sum c.records.counts.items i.batches.counted,
  c.records.counts.ok,
  c.len.ensures,
)

pub overflow_add-len : goal.overflow_add-len
overflow_add-len c = let i = c.records.invariant in omega (
  arith,
  i.batches.most,
  length-le-sum c.records.counts.items i.batches.counted,
  c.records.counts.ok,
  c.len.ensures,
)

pub records-preserved : goal.records-preserved
records-preserved c =
    let next = rw c.if-branch.true at c.in_ok-read_numbered.ensures in
    let judged = sym c.in_ok-batch.ensures.judged ∙ c.in-Ok.is in
    let so_far = goes_on (numbered c.args.rows.now) c.records.ids c.records.counts.items c.records.firsts.items c.records.cards
    (trimmed_fields (fields_of c.read_numbered.new.row)) (numbered c.read_numbered.new.self) c.in-Ok.batch
    (rw next at c.records.invariant) judged in
    rw (rw c.in-Ok.is at c.in_ok-batch.ensures.put, c.in_ok-push.ensures.items, c.in_ok-push-2.ensures.items) so_far
