use Rattle.std.proofs.Common.{◌≤◌}
use Rattle.fewest_search.proofs.Trials.{IsLeftAt}
use Rattle.fewest_search.proofs.sparing.nebs_left.Given as goal

abbrev pub invariant-loop-place : goal.invariant-loop-place
invariant-loop-place l = record {
  left : IsLeftAt l.fn.n l.fn.winner l.fn.sets l.claims l.place l.left l.reached;
  many : l.many ≤ l.place;
}
