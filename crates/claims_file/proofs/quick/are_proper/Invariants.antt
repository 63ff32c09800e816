use Rattle.std.proofs.Common.{◌≡◌, true, take}
use Rattle.std.specs.List.{list_all}
use Rattle.assertions.specs.Assertions.{is_proper}
use Rattle.claims_file.proofs.quick.are_proper.Given as goal

abbrev pub invariant-loop-a : goal.invariant-loop-a
invariant-loop-a l = list_all (is_proper l.n) (take l.a-index l.assertions) ≡ true
