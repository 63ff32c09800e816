use Rattle.std.proofs.Common.{◌≡◌, ◌-◌, ◌≤◌, length}
use Rattle.suffix_walk.specs.Kept.{all_ending}
use Rattle.suffix_walk.specs.Walks.{walked}
use Rattle.suffix_walk.proofs.Runs.{rest}
use Rattle.trimmer.specs.Remaining.{assertions_in}
use Rattle.trimmer.specs.Opened.{opens}
use Rattle.trimmer.proofs.opened.Without.+walk.Given as goal

abbrev pub decreases-walk : goal.decreases-walk
decreases-walk l = l.self.now.n - length l.suffix.now

abbrev pub invariant-loop-c : goal.invariant-loop-c
invariant-loop-c l = record {
  within : l.seen ≤ l.nodes;
  same : rest l.self.n l.nodes (opens (assertions_in l.self.others.now) l.self.claim) l.seen l.suffix l.c
      ≡ walked l.self.n l.nodes (opens (assertions_in l.self.others.now) l.self.claim) l.count (all_ending l.self.n l.suffix);
}
