use Rattle.std.proofs.Common.{◌≡◌, ◌*◌, ◌<◌, ◌≤◌, ◌^◌, ℕ, [], get_or, length, map}
use Rattle.set_tallies.specs.Bags.{missing}
use Rattle.set_tallies.specs.Sums.{column, apart}
use Rattle.set_tallies.proofs.table.table_of.Given as goal

abbrev pub invariant-loop-c : goal.invariant-loop-c
invariant-loop-c l = record {
  long : length l.table.items ≡ l.n * 2 ^ l.n;
  done : (s d : ℕ) → s < 2 ^ l.n → d < l.c → apart s (column l.n l.n l.table.items d) ≡ missing s (get_or (map (λ v. v.items) l.lists) d []);
  left : (s d : ℕ) → s < 2 ^ l.n → l.c ≤ d → d < l.n → apart s (column l.n l.n l.table.items d) ≡ 0;
}
