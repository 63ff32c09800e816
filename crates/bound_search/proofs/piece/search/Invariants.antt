use Rattle.std.proofs.Common.{◌≡◌, ◌+◌, ◌-◌, ◌*◌, ◌≤◌}
use Rattle.bound_search.specs.Reached.{IsNewest}
use Rattle.bound_search.specs.declared.limits.TheConstants.{MOST_EXPANDED}
use Rattle.bound_search.proofs.Racing.{IsUnder}
use Rattle.bound_search.proofs.piece.search.Given as goal

abbrev pub invariant-turns : goal.invariant-turns
invariant-turns g l = record {
  of_race : l.seat.race ≡ l.race.id;
  under : IsUnder l.fn.tallies.bag l.race.terms.first l.front;
  piece : l.front.piece ≡ l.tail;
  falls : l.seat.view.seen ≤ l.front.bound;
  least : l.seat.view.seen ≤ l.front.least;
  taken : l.seat.view.taken ≡ l.fn.seat.view.taken;
  closed : l.seat.view.closed ≡ l.fn.seat.view.closed;
  ends : l.seat.view.ends ≡ l.fn.seat.view.ends;
  looked : l.seat.view.looks ≡ l.fn.seat.view.looks + l.looks;
  lower : l.seat.view.seen ≤ l.fn.seat.view.seen;
  between : l.seat.view.seen ≤ l.seat.view.posted;
  newest : IsNewest l.fn.tallies.bag l.tail.list l.fn.seat.view.posted l.seat.view.posted l.found;
  within : l.front.expanded ≤ l.nodes;
  paced : l.front.expanded ≤ MOST_EXPANDED * l.looks;
  few_looks : l.looks + l.seat.view.seen ≤ l.fn.seat.view.seen + l.front.expanded;
  same : l.tallies ≡ l.fn.tallies;
}

abbrev pub decreases-turns : goal.decreases-turns
decreases-turns g l = (l.nodes - l.front.expanded) + l.seat.view.seen
