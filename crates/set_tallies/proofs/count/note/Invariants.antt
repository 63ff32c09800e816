use Rattle.std.proofs.Common.{◌≡◌, ◌+◌, ◌<◌, ◌^◌, ℕ, true, false, IsTrue, if◌then◌else◌, [], length, drop, map, get_or}
use Rattle.irv_base.specs.Candidates.{has, is_in, is_distinct}
use Rattle.set_tallies.specs.Bags.{missing}
use Rattle.set_tallies.specs.Befores.{has_missed}
use Rattle.set_tallies.proofs.Tables.{left}
use Rattle.set_tallies.proofs.count.note.Given as goal

abbrev pub invariant-loop-d : goal.invariant-loop-d
invariant-loop-d l = record {
  each : length l.lists ≡ l.n;
  below : l.seen < 2 ^ l.n;
  distinct : IsTrue (is_distinct (drop l.d-index l.ranking));
  unseen : (e : ℕ) → is_in (drop l.d-index l.ranking) e ≡ true → has l.seen e ≡ false;
  more : (s c : ℕ) → c < l.n → missing s (get_or (map (λ v. v.items) l.lists) c []) + left s l.seen (drop l.d-index l.ranking) c
      ≡ missing s (get_or (map (λ v. v.items) l.fn.lists) c []) + (if has_missed s c l.ranking then 1 else 0);
}
