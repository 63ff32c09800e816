use Rattle.std.proofs.Common.{map, take}
use Rattle.trimmer.specs.Counted.{IsCountOf}
use Rattle.trimmer.proofs.Lefts.{assertion_in}
use Rattle.trimmer.proofs.remaining.Remaining.all.Given as goal

abbrev pub invariant-loop-claim : goal.invariant-loop-claim
invariant-loop-claim l = IsCountOf (map assertion_in (take l.claim-index l.claims)) l.counted
