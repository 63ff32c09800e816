use Rattle.std.proofs.Common.{◌≡◌, map, take, length}
use Rattle.set_tallies.specs.Befores.{AllCounted}
use Rattle.set_tallies.proofs.count.noted.Given as goal

abbrev pub invariant-loop-i : goal.invariant-loop-i
invariant-loop-i l = record {
  each : length l.noted.items ≡ l.n;
  counted : AllCounted (map (λ v. v.items) l.noted.items) (take l.i l.rankings);
}
