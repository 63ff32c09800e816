use Rattle.std.proofs.Common.{◌≡◌, ◌++◌, map}
use Rattle.std.specs.Vec.Iter.{into_iter_items}
use Rattle.set_tallies.specs.Befores.{AllSayTheSame}
use Rattle.set_tallies.proofs.count.all_joined.Given as goal

abbrev pub invariant-loop-entries : goal.invariant-loop-entries
invariant-loop-entries l = record {
  whole : into_iter_items l.initial.entries-iterator ≡ l.yielded ++ into_iter_items l.entries-iterator;
  joined : AllSayTheSame (map (λ v. v.items) l.yielded) (map (λ v. v.items) l.lists.items);
}
