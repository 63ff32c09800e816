use Rattle.std.proofs.Common.{◌≡◌, take}
use Rattle.set_tallies.specs.Bags.{missing}
use Rattle.set_tallies.specs.Listings.{paired}
use Rattle.set_tallies.proofs.lanes.missing.Given as goal

abbrev pub invariant-loop-i : goal.invariant-loop-i
invariant-loop-i l = l.votes ≡ missing l.set (take l.i (paired l.sets l.counts))
