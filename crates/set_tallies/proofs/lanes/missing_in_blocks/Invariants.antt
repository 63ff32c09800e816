use Rattle.std.proofs.Common.{◌≡◌, ◌*◌, take}
use Rattle.std.specs.Simd.Lanes.{sum_l}
use Rattle.set_tallies.specs.Bags.{missing}
use Rattle.set_tallies.specs.Listings.{paired}
use Rattle.set_tallies.specs.declared.lanes.TheConstants.{LANES}
use Rattle.set_tallies.proofs.lanes.missing_in_blocks.Given as goal

abbrev pub invariant-loop-block : goal.invariant-loop-block
invariant-loop-block l = sum_l l.votes ≡ missing l.set (take (l.block * LANES) (paired l.sets l.counts))
