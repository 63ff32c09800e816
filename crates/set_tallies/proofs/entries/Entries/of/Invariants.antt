use Rattle.std.proofs.Common.{◌≡◌, map, take}
use Rattle.set_tallies.proofs.entries.Entries.of.Given as goal

abbrev pub invariant-loop-entry : goal.invariant-loop-entry
invariant-loop-entry l = record {
  sets : l.sets.items ≡ map (λ e. e.before) (take l.entry-index l.list);
  counts : l.counts.items ≡ map (λ e. e.count) (take l.entry-index l.list);
}
