use Rattle.std.proofs.Common.{◌≡◌, ◌*◌, ◌<◌, ◌^◌, ℕ, length, take, drop, count_by}
use Rattle.set_tallies.specs.Befores.{has_missed}
use Rattle.set_tallies.specs.Sums.{column, apart}
use Rattle.set_tallies.proofs.shares.share_of.Given as goal

abbrev pub invariant-loop-k : goal.invariant-loop-k
invariant-loop-k l = record {
  long : length l.table.items ≡ l.n * 2 ^ l.n;
  counted : (s c : ℕ) → c < l.n →
      apart s (column l.n l.n l.table.items c) ≡ count_by (has_missed s c) (take l.k (drop (l.i * l.size) l.rankings));
}
