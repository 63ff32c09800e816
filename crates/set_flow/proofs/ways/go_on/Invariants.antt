use Rattle.std.proofs.Common.{◌≡◌, ℕ, false}
use Rattle.set_walk.specs.Dives.{is_seen}
use Rattle.set_flow.specs.declared.room.Room.{Room}
use Rattle.set_flow.specs.Kept.{carried}
use Rattle.set_flow.specs.Seen.{AreLinked, AreLinks, IsLonger}
use Rattle.set_flow.proofs.ways.go_on.Given as goal

abbrev pub invariant-loop-c : goal.invariant-loop-c
invariant-loop-c g l = record {
  steps : l.steps ≡ l.fn.steps;
  linked : AreLinked l.n l.seen.sets.keys l.seen.from.items l.seen.by.items;
  links : (rooms : ℕ → ℕ → Room) → g.T.Steps.is_by l.fn.steps rooms →
      AreLinks rooms (carried l.flow.kept) l.fn.seen.sets.keys l.fn.seen.from.items l.fn.seen.by.items →
      AreLinks rooms (carried l.flow.kept) l.seen.sets.keys l.seen.from.items l.seen.by.items;
  longer : IsLonger l.fn.seen.sets.keys l.seen.sets.keys;
  none : is_seen l.seen.sets.keys l.all ≡ false;
}
