use Rattle.std.proofs.Common.{◌≡◌, length}
use Rattle.certifier.proofs.team.places.Given as goal

abbrev pub invariant-loop-worker : goal.invariant-loop-worker
invariant-loop-worker l = length l.places.items ≡ l._worker
