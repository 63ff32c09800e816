use Rattle.std.proofs.Common.{◌≡◌, ℕ, ◌+◌, ◌-◌, ◌*◌, List, length}
use Rattle.std.specs.BinaryHeap.{heap_items, heap_len, IsHeap}
use Rattle.set_tallies.specs.Bags.{IsOf}
use Rattle.set_search.specs.Waits.{AreBelow, least_first}
use Rattle.set_search.proofs.Leveling.{Searched}
use Rattle.set_search.proofs.level.level.Given as goal

abbrev pub invariant-loop-next : goal.invariant-loop-next
invariant-loop-next l = record {
  same : l.tallies ≡ l.fn.tallies;
  heap : IsHeap least_first (heap_items l.waiting);
  below : AreBelow l.fn.tallies.bag.n (heap_items l.waiting);
  searched : (records : List (List ℕ)) → IsOf l.fn.tallies.bag records →
      Searched l.fn.tallies.bag.n l.fn.winner records l.level l.seen.keys (heap_items l.waiting);
}

-- one more set was gone into, or one fewer set is waiting
abbrev pub decreases-loop-next : goal.decreases-loop-next
decreases-loop-next l = (l.sets - length l.seen.keys) * 33 + heap_len l.waiting
