use Rattle.std.proofs.Common.{◌≡◌, ◌+◌, ◌≤◌, drop}
use Rattle.assertions.specs.Hardness.{start_order}
use Rattle.bound_search.proofs.start.start_tail.Given as goal

abbrev pub invariant-loop-at : goal.invariant-loop-at
invariant-loop-at l = record {
  within : l.at + 2 ≤ l.n;
  number : l.tail.n ≡ l.n;
  list : l.tail.list ≡ drop l.at (start_order l.fn.order);
}

abbrev pub decreases-loop-at : goal.decreases-loop-at
decreases-loop-at l = l.at
