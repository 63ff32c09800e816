use Rattle.std.proofs.Common.{◌≡◌, ◌+◌, ◌*◌, ◌<◌, ◌^◌, ℕ, true, false, IsTrue, if◌then◌else◌, length, drop}
use Rattle.irv_base.specs.Candidates.{has, is_in, is_distinct}
use Rattle.set_tallies.specs.Befores.{has_missed}
use Rattle.set_tallies.specs.Sums.{column, apart}
use Rattle.set_tallies.proofs.Tables.{left}
use Rattle.set_tallies.proofs.table.count.Given as goal

abbrev pub invariant-loop-d : goal.invariant-loop-d
invariant-loop-d l = record {
  long : length l.table ≡ l.n * 2 ^ l.n;
  below : l.seen < 2 ^ l.n;
  distinct : IsTrue (is_distinct (drop l.d-index l.ranking));
  unseen : (e : ℕ) → is_in (drop l.d-index l.ranking) e ≡ true → has l.seen e ≡ false;
  more : (s c : ℕ) → c < l.n → apart s (column l.n l.n l.table c) + left s l.seen (drop l.d-index l.ranking) c
      ≡ apart s (column l.n l.n l.fn.table c) + (if has_missed s c l.ranking then 1 else 0);
}
