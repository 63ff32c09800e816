use Rattle.std.proofs.Common.{take}
use Rattle.cover_checker.specs.Indexed.{IsIndexOf}
use Rattle.cover_checker.proofs.index.Index.of.Given as goal

abbrev pub invariant-loop-a : goal.invariant-loop-a
invariant-loop-a l = IsIndexOf (take l.a-index l.list) l.refuting
