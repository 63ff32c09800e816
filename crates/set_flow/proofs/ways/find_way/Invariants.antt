use Rattle.std.proofs.Common.{◌≡◌, ◌<◌, ℕ, false, length}
use Rattle.set_walk.specs.Dives.{is_seen}
use Rattle.set_flow.specs.declared.room.Room.{Room}
use Rattle.set_flow.specs.Kept.{carried}
use Rattle.set_flow.specs.Seen.{AreLinked, AreLinks}
use Rattle.set_flow.proofs.ways.find_way.Given as goal

abbrev pub invariant-loop-turn : goal.invariant-loop-turn
invariant-loop-turn g l = record {
  steps : l.steps ≡ l.fn.steps;
  linked : AreLinked l.n l.seen.sets.keys l.seen.from.items l.seen.by.items;
  links : (rooms : ℕ → ℕ → Room) → g.T.Steps.is_by l.fn.steps rooms → AreLinks rooms (carried l.flow.kept) l.seen.sets.keys l.seen.from.items l.seen.by.items;
  none : is_seen l.seen.sets.keys l.all ≡ false;
  within : l.place < length l.seen.sets.keys;
}
