use Rattle.std.proofs.Common.{◌≡◌, ℕ, ◌<◌, ◌≤◌, ◌+◌, ◌-◌, ◌^◌, ◌&&◌, ◌/◌, length, cond}
use Rattle.set_tallies.specs.Bags.{misses}
use Rattle.set_tallies.specs.Sums.{column, apart}
use Rattle.set_tallies.specs.declared.halves.TheConstants.{LOW_SETS, LOW_CANDIDATES}
use Rattle.set_tallies.proofs.halves.count_low.Given as goal

abbrev pub invariant-loop-low : goal.invariant-loop-low
invariant-loop-low l = record {
  long : length l.numbers ≡ 2 ^ l.n;
  done : (s low : ℕ) → low < l.low → apart s (column LOW_SETS (l.n - LOW_CANDIDATES) l.numbers low)
      ≡ apart s (column LOW_SETS (l.n - LOW_CANDIDATES) l.fn.numbers low) + cond (misses low l.before && misses s (l.before / LOW_SETS)) l.count 0;
  left : (s low : ℕ) → l.low ≤ low → low < LOW_SETS → apart s (column LOW_SETS (l.n - LOW_CANDIDATES) l.numbers low)
      ≡ apart s (column LOW_SETS (l.n - LOW_CANDIDATES) l.fn.numbers low);
}
