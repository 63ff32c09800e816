use Rattle.std.proofs.Common.{◌≡◌, ◌==◌, ◌+◌, ◌*◌, ◌<◌, ◌^◌, ℕ, cond, length, take}
use Rattle.set_tallies.specs.Bags.{missing}
use Rattle.set_tallies.specs.Sums.{column, apart}
use Rattle.set_tallies.proofs.table.count_entries.Given as goal

abbrev pub invariant-loop-i : goal.invariant-loop-i
invariant-loop-i l = record {
  long : length l.table ≡ l.n * 2 ^ l.n;
  more : (s d : ℕ) → s < 2 ^ l.n → d < l.n → apart s (column l.n l.n l.table d)
      ≡ apart s (column l.n l.n l.fn.table d) + cond (d == l.c) (missing s (take l.i l.entries.items)) 0;
}
