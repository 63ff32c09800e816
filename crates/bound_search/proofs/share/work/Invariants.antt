use Rattle.std.proofs.Common.{◌≡◌, ◌++◌, ◌+◌, ◌*◌, ◌≤◌, ℕ, All, length, map, sum_by}
use Rattle.shared_witness.specs.View.{highest}
use Rattle.shared_witness.specs.Moment.{times}
use Rattle.bound_search.specs.Reached.{AreLeftOpen, IsEntry, IsDoneWith, IsCostly, IsBestFound}
use Rattle.bound_search.specs.declared.limits.TheConstants.{MOST_EXPANDED}
use Rattle.bound_search.proofs.share.work.Given as goal

abbrev pub invariant-loop-turn : goal.invariant-loop-turn
invariant-loop-turn g l = record {
  of_race : l.seat.race ≡ l.race.id;
  going : l.seat.view.ends ≡ 0;
  turn : length l.seat.view.taken ≡ l._turn;
  few : length l.seat.view.taken ≤ length l.tails;
  looked : l.looks ≡ l.seat.view.looks;
  few_looks : l.looks ≤ 17179869184 * l._turn;
  took : map (λ p. p.piece) l.ends.items ≡ l.seat.view.taken;
  once : (p : ℕ) → times l.seat.view.taken p ≤ 1;
  left : (p : ℕ) → times l.seat.view.taken p ≡ times l.seat.view.closed p + times (l.spent.items ++ l.skipped.items) p;
  entries : All (IsEntry l.fn.tallies.bag l.race.terms.first l.nodes l.worker l.tails) l.ends.items;
  done_with : All (IsDoneWith l.fn.tallies.bag l.seat.view (l.spent.items ++ l.skipped.items)) l.ends.items;
  costly : All (IsCostly l.fn.tallies.bag l.race.terms.first l.nodes l.tails) l.spent.items;
  unclosed : AreLeftOpen l.ends.items l.spent.items l.skipped.items;
  paced : sum_by (λ p. p.expanded) l.ends.items ≤ MOST_EXPANDED * l.looks;
  between : l.seat.view.seen ≤ l.seat.view.posted;
  high : l.seat.view.posted ≤ highest;
  found : IsBestFound l.fn.tallies.bag l.tails l.seat.view.posted l.best;
  same : l.tallies ≡ l.fn.tallies;
}
