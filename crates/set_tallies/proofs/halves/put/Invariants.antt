use Rattle.std.proofs.Common.{◌≡◌, ◌==◌, ℕ, ◌<◌, ◌+◌, ◌*◌, ◌-◌, ◌^◌, false, length, get_or}
use Rattle.set_tallies.specs.Halves.{having}
use Rattle.set_tallies.proofs.halves.put.Given as goal

abbrev pub invariant-loop-row : goal.invariant-loop-row
invariant-loop-row l = record {
  long : length l.table ≡ l.n * 2 ^ (l.n - 1);
  own : (row : ℕ) → row < l.row → get_or l.table (row * l.n + l.c) 0 ≡ get_or l.numbers (having l.n row l.c) 0;
  others : (row d : ℕ) → d < l.n → (d == l.c) ≡ false → get_or l.table (row * l.n + d) 0 ≡ get_or l.fn.table (row * l.n + d) 0;
}
