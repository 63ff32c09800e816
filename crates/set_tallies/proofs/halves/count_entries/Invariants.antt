use Rattle.std.proofs.Common.{◌≡◌, ℕ, ◌<◌, ◌+◌, ◌*◌, ◌-◌, ◌^◌, length, take}
use Rattle.set_tallies.specs.Bags.{missing}
use Rattle.set_tallies.specs.Sums.{column, apart}
use Rattle.set_tallies.specs.declared.halves.TheConstants.{LOW_SETS, LOW_CANDIDATES}
use Rattle.set_tallies.proofs.halves.count_entries.Given as goal

abbrev pub invariant-loop-i : goal.invariant-loop-i
invariant-loop-i l = record {
  long : length l.numbers ≡ 2 ^ l.n;
  says : (s low : ℕ) → s < 2 ^ (l.n - LOW_CANDIDATES) → low < LOW_SETS →
      apart s (column LOW_SETS (l.n - LOW_CANDIDATES) l.numbers low) ≡ missing (s * LOW_SETS + low) (take l.i l.entries.items);
}
