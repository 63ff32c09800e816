use Rattle.std.proofs.Common.{◌≡◌, ◌≤◌, length, drop}
use Rattle.suffix_tree.specs.Scores.{IsScoredOver}
use Rattle.suffix_tree.proofs.scored.score.Given as goal

abbrev pub invariant-loop-at : goal.invariant-loop-at
invariant-loop-at l = record {
  within : l.at ≤ length l.list;
  number : l.scored.tail.n ≡ l.t.n;
  list : l.scored.tail.list ≡ drop l.at l.list;
  scored : IsScoredOver l.tallies.bag l.scored;
  same : l.tallies ≡ l.fn.tallies;
}

abbrev pub decreases-loop-at : goal.decreases-loop-at
decreases-loop-at l = l.at
