use Rattle.std.proofs.Common.{refl}
use Rattle.std.specs.BinaryHeap.{heap_items}
use Rattle.bound_search.proofs.front.Front.put.Goals as goal

pub returns-clause-put : goal.returns-clause-put
returns-clause-put c = rw (← c.self.view_is) (record {
  fresh = heap_items c.in_ok-sifted.sifted.fresh;
  replaced = c.in_ok-replace_first.ensures.ok;
  placed = c.in_ok-sifted.ensures.each;
  stays = c.in_ok-sifted.ensures.stays;
  counts = c.in_ok-sifted.ensures.counts;
  found_one = c.in_ok-sifted.ensures.found;
  piece = refl;
  bound = refl;
  expanded = refl;
  least = c.lessened-self-inside.ensures;
})
