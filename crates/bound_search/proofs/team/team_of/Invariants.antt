use Rattle.std.proofs.Common.{◌≡◌, ◌++◌, map}
use Rattle.std.specs.Vec.Iter.{into_iter_items}
use Rattle.bound_search.specs.Team.{waiting}
use Rattle.bound_search.proofs.team.team_of.Given as goal

abbrev pub invariant-loop-seat : goal.invariant-loop-seat
invariant-loop-seat l = record {
  whole : l.fn.seats.items ≡ l.yielded ++ into_iter_items l.seat-iterator;
  made : l.team.items ≡ map waiting l.yielded;
}
