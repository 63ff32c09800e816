use Rattle.std.proofs.Common.{◌≡◌, ℕ, ◌+◌, ◌≤◌, List}
use Rattle.std.specs.BinaryHeap.{heap_items, heap_len, IsHeap}
use Rattle.set_tallies.specs.Bags.{IsOf}
use Rattle.set_search.specs.Waits.{AreBelow, AreAddedUpTo, least_first}
use Rattle.set_search.proofs.waiting.put_next.Given as goal

abbrev pub invariant-loop-c : goal.invariant-loop-c
invariant-loop-c l = record {
  same : l.tallies ≡ l.fn.tallies;
  heap : IsHeap least_first (heap_items l.waiting);
  below : AreBelow l.fn.tallies.bag.n (heap_items l.waiting);
  few : heap_len l.waiting ≤ heap_len l.fn.waiting + l.c;
  added : (records : List (List ℕ)) → IsOf l.fn.tallies.bag records →
      AreAddedUpTo l.fn.tallies.bag.n records l.low l.set l.closed l.c (heap_items l.fn.waiting) (heap_items l.waiting);
}
