use Rattle.std.proofs.Common.{◌≡◌, ◌-◌, ◌≤◌, length}
use Rattle.suffix_walk.specs.Kept.{all_ending}
use Rattle.suffix_walk.specs.Walks.{walked}
use Rattle.suffix_walk.proofs.Runs.{rest}
use Rattle.suffix_walk.proofs.walk.+walk.Given as goal

abbrev pub decreases-walk : goal.decreases-walk
decreases-walk g l = l.n - length l.suffix.now

abbrev pub invariant-loop-c : goal.invariant-loop-c
invariant-loop-c g l = record {
  within : l.seen ≤ l.nodes;
  same : rest l.n l.nodes (g.T.Keeps.kept l.test) l.seen l.suffix l.c ≡ walked l.n l.nodes (g.T.Keeps.kept l.test) l.count (all_ending l.n l.suffix);
}
