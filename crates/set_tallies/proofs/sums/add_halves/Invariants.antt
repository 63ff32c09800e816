use Rattle.std.proofs.Common.{◌≡◌, ℕ, ◌+◌, ◌<◌, ◌≤◌, get_or}
use Rattle.set_tallies.proofs.sums.add_halves.Given as goal

abbrev pub invariant-loop-i : goal.invariant-loop-i
invariant-loop-i l = record {
  summed : (k : ℕ) → k < l.i → get_or l.without k 0 ≡ get_or l.initial.without k 0 + get_or l.initial.having k 0;
  first : (k : ℕ) → k < l.i → get_or l.having k 0 ≡ get_or l.initial.without k 0;
  left : (k : ℕ) → l.i ≤ k → get_or l.without k 0 ≡ get_or l.initial.without k 0;
  right : (k : ℕ) → l.i ≤ k → get_or l.having k 0 ≡ get_or l.initial.having k 0;
}
