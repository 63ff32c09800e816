use Rattle.std.proofs.Common.{[], ◌≤◌, ◌-◌, length}
use Rattle.std.specs.Prelude.{All}
use Rattle.ballot_ids.specs.Noted.{AreNoted}
use Rattle.ballot_reader.proofs.kept.nothing_noted.Given as goal

abbrev pub invariant-loop-alloc : goal.invariant-loop-alloc
invariant-loop-alloc l = (length l.sets.items ≤ l.n) × All (AreNoted []) l.sets.items

abbrev pub decreases-loop-alloc : goal.decreases-loop-alloc
decreases-loop-alloc l = l.n - length l.sets.items
