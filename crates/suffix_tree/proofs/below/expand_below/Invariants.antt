use Rattle.std.proofs.Common.{◌≡◌}
use Rattle.suffix_tree.specs.Scores.{AreScoredBelow}
use Rattle.suffix_tree.proofs.Children.{children_below}
use Rattle.suffix_tree.proofs.below.expand_below.Given as goal

abbrev pub invariant-loop-c : goal.invariant-loop-c
invariant-loop-c g l = record {
  found : AreScoredBelow l.fn.tallies.bag l.limit (children_below l.c l.fn.s.tail) l.longer.items;
  same : l.tallies ≡ l.fn.tallies;
}
