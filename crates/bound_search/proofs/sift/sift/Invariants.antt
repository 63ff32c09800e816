use Rattle.std.proofs.Common.{vec_len}
use Rattle.std.specs.BinaryHeap.{heap_items}
use Rattle.bound_search.proofs.Sifting.{SiftedSoFar}
use Rattle.bound_search.proofs.sift.sift.Given as goal

abbrev pub invariant-loop-child : goal.invariant-loop-child
invariant-loop-child l = SiftedSoFar l.fn.children.items l.bound l.rest.items (heap_items l.fresh) l.found

abbrev pub decreases-loop-child : goal.decreases-loop-child
decreases-loop-child l = vec_len l.rest
