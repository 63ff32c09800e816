use Rattle.std.proofs.Common.{◌≡◌, ◌*◌, ◌++◌, length, take}
use Rattle.std.specs.Vec.Iter.{into_iter_items}
use Rattle.set_tallies.specs.Sums.{IsCountOf}
use Rattle.set_tallies.proofs.shares.counted.Given as goal

abbrev pub invariant-loop-share : goal.invariant-loop-share
invariant-loop-share g l = record {
  whole : into_iter_items l.initial.share-iterator ≡ l.yielded ++ into_iter_items l.share-iterator;
  counted : IsCountOf l.n (take (length l.yielded * l.size) l.rankings) l.table.items;
}
