use Rattle.std.proofs.Common.{◌≡◌, ◌-◌, ◌<◌, length}
use Rattle.certifier.specs.Known.{AreKnown}
use Rattle.certifier.proofs.Walking.{IsGoing}
use Rattle.certifier.proofs.walk.+walk.Given as goal

abbrev pub decreases-walk : goal.decreases-walk
decreases-walk l = l.s.now.tail.n - length l.s.now.tail.list

abbrev pub invariant-loop-c : goal.invariant-loop-c
invariant-loop-c l = record {
  same : l.tallies ≡ l.fn.tallies;
  more : l.count < l.seen;
  known : AreKnown l.fn.tallies.bag l.reach.limit l.reach.keeps l.counts l.claims;
  going : IsGoing l.fn.tallies.bag l.reach l.s l.count l.fn.claims l.c l.seen l.claims;
}
