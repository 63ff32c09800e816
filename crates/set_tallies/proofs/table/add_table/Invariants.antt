use Rattle.std.proofs.Common.{◌≡◌, ℕ, ◌+◌, ◌<◌, ◌≤◌, get_or}
use Rattle.set_tallies.proofs.table.add_table.Given as goal

abbrev pub invariant-loop-i : goal.invariant-loop-i
invariant-loop-i l = record {
  summed : (k : ℕ) → k < l.i → get_or l.table k 0 ≡ get_or l.initial.table k 0 + get_or l.other k 0;
  left : (k : ℕ) → l.i ≤ k → get_or l.table k 0 ≡ get_or l.initial.table k 0;
}
