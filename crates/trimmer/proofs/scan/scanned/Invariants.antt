use Rattle.std.proofs.Common.{◌≡◌, ℕ, ◌<◌, ◌≢◌, get_or, length}
use Rattle.irv_base.specs.declared.limits.TheConstants.{ROOM}
use Rattle.trimmer.specs.Remaining.{assertions_in}
use Rattle.trimmer.specs.Counts.{AreWithin, Goes}
use Rattle.trimmer.proofs.scan.scanned.Given as goal

abbrev pub invariant-loop-c : goal.invariant-loop-c
invariant-loop-c l = record {
  below : (d : ℕ) → d < l.c → d ≢ l.winner → Goes l.nodes l.without.n l.winner (assertions_in l.without.others.now) l.without.claim l.counts d (get_or l.more d 0);
  within : AreWithin l.nodes l.more;
  long : length l.more ≡ ROOM;
}
