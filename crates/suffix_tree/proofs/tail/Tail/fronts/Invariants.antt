use Rattle.std.proofs.Common.{◌≡◌, ◌≤◌, ◌++◌, drop, length}
use Rattle.suffix_tree.proofs.tail.Tail.fronts.Given as goal

abbrev pub invariant-loop-at : goal.invariant-loop-at
invariant-loop-at l = record {
  within : l.at ≤ length l.list;
  number : l.tail.n ≡ l.fn.self.n;
  list : l.tail.list ≡ drop l.at (l.list ++ l.fn.self.list);
}

abbrev pub decreases-loop-at : goal.decreases-loop-at
decreases-loop-at l = l.at
