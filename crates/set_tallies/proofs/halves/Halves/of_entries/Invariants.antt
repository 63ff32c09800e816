use Rattle.std.proofs.Common.{◌≡◌, ◌+◌, ◌*◌, ◌-◌, ◌<◌, ◌^◌, ℕ, [], get_or, length, map}
use Rattle.set_tallies.specs.Bags.{missing}
use Rattle.set_tallies.specs.Halves.{having}
use Rattle.set_tallies.proofs.halves.Halves.of_entries.Given as goal

abbrev pub invariant-loop-c : goal.invariant-loop-c
invariant-loop-c l = record {
  long : length l.table.items ≡ l.n * 2 ^ (l.n - 1);
  done : (row d : ℕ) → row < 2 ^ (l.n - 1) → d < l.c →
      get_or l.table.items (row * l.n + d) 0 ≡ missing (having l.n row d) (get_or (map (λ v. v.items) l.lists) d []);
}
