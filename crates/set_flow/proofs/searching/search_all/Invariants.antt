use Rattle.std.proofs.Common.{◌≡◌, ℕ, false}
use Rattle.set_walk.specs.Dives.{is_seen}
use Rattle.set_flow.specs.declared.room.Room.{Room}
use Rattle.set_flow.specs.Kept.{carried}
use Rattle.set_flow.specs.Seen.{AreLinked, AreLinks, AreLooked}
use Rattle.set_flow.proofs.searching.search_all.Given as goal

abbrev pub invariant-loop-place : goal.invariant-loop-place
invariant-loop-place g l = record {
  steps : l.steps ≡ l.fn.steps;
  linked : AreLinked l.n l.seen.sets.keys l.seen.from.items l.seen.by.items;
  links : (rooms : ℕ → ℕ → Room) → g.T.Steps.is_by l.fn.steps rooms → AreLinks rooms (carried l.flow.kept) l.seen.sets.keys l.seen.from.items l.seen.by.items;
  none : is_seen l.seen.sets.keys l.all ≡ false;
  looked : (rooms : ℕ → ℕ → Room) → g.T.Steps.is_by l.fn.steps rooms → AreLooked l.n rooms (carried l.flow.kept) l.seen.sets.keys l.place;
}
