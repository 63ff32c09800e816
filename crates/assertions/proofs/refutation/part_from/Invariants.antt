use Rattle.std.proofs.Common.{◌≡◌, drop}
use Rattle.assertions.specs.Refutation.{part_from}
use Rattle.assertions.proofs.refutation.part_from.Given as goal

abbrev pub invariant-loop-i : goal.invariant-loop-i
invariant-loop-i l = part_from (drop l.i l.suffix) l.c ≡ part_from l.suffix l.c
