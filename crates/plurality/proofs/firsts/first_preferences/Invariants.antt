use Rattle.std.proofs.Common.{◌≡◌, ◌<◌, ℕ, length, slice_index, take}
use Rattle.plurality.specs.Plurality.{first_preferences}
use Rattle.plurality.proofs.firsts.first_preferences.Given as goal

abbrev pub invariant-loop-i : goal.invariant-loop-i
invariant-loop-i l = record {
  long : length l.firsts.items ≡ l.n;
  each : (c : ℕ) → c < l.n → slice_index l.firsts.items c ≡ first_preferences (take l.i l.rankings) c;
}
