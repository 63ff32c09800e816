use Rattle.std.proofs.Common.{◌≡◌, ◌≤◌, ◌+◌, ◌++◌, length}
use Rattle.bound_search.proofs.Cutting.{electing_below}
use Rattle.bound_search.proofs.pieces.add_pieces.Given as goal

abbrev pub invariant-loop-other : goal.invariant-loop-other
invariant-loop-other l = record {
  added : l.tails.items ≡ l.fn.tails.items ++ electing_below l.n l.fn.last l.other;
  few : length l.tails.items ≤ length l.fn.tails.items + l.other;
}
