use Rattle.std.proofs.Common.{◌≡◌, length}
use Rattle.contest_set.proofs.all.places.Given as goal

abbrev pub invariant-loop-contest : goal.invariant-loop-contest
invariant-loop-contest l = length l.places.items ≡ l._contest
