-- The part of a suffix from a candidate on has no candidate twice either.
use Rattle.assertions.proofs.Parts.{is_distinct-part_from}
use Rattle.assertions.proofs.refutation.refutes.Goals as goal

pub set_of-requires : goal.set_of-requires
set_of-requires c = rw c.part_from-then-contains-2.ensures (is_distinct-part_from c.args.t.now c.in-Nen.w c.requires)
