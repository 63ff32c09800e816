use Rattle.std.proofs.Common.{◌≡◌, ◌+◌, ◌-◌, ◌≤◌}
use Rattle.bound_search.specs.declared.limits.TheConstants.{MOST_EXPANDED}
use Rattle.bound_search.specs.Fronts.{IsFront, Grows}
use Rattle.bound_search.proofs.front.Front.turn.Given as goal

abbrev pub invariant-loop-self : goal.invariant-loop-self
invariant-loop-self g l = record {
  front : IsFront l.fn.tallies.bag l.self;
  grows : Grows l.fn.tallies.bag l.fn.bound l.fn.self l.self;
  piece : l.self.piece ≡ l.fn.self.piece;
  bound : l.self.bound ≡ l.fn.bound;
  least : l.self.least ≡ l.fn.self.least;
  expanded : l.self.expanded ≡ l.fn.self.expanded + l.taken;
  stepped : l.steps ≡ l.fn.steps + l.taken;
  within : l.taken ≤ l.fn.left;
  few : l.taken ≤ MOST_EXPANDED;
  same : l.tallies ≡ l.fn.tallies;
}

abbrev pub decreases-loop-self : goal.decreases-loop-self
decreases-loop-self g l = MOST_EXPANDED + 1 - l.taken
