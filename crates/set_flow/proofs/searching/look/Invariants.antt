use Rattle.std.proofs.Common.{◌≡◌, ℕ, ◌<◌, true, false, get_or}
use Rattle.set_walk.specs.Dives.{is_seen}
use Rattle.set_flow.specs.declared.room.Room.{Room}
use Rattle.set_flow.specs.Kept.{carried}
use Rattle.set_flow.specs.Seen.{turned, can_go, AreLinked, AreLinks, IsLonger}
use Rattle.set_flow.proofs.searching.look.Given as goal

abbrev pub invariant-loop-c : goal.invariant-loop-c
invariant-loop-c g l = record {
  steps : l.steps ≡ l.fn.steps;
  linked : AreLinked l.n l.seen.sets.keys l.seen.from.items l.seen.by.items;
  links : (rooms : ℕ → ℕ → Room) → g.T.Steps.is_by l.fn.steps rooms →
      AreLinks rooms (carried l.flow.kept) l.fn.seen.sets.keys l.fn.seen.from.items l.fn.seen.by.items →
      AreLinks rooms (carried l.flow.kept) l.seen.sets.keys l.seen.from.items l.seen.by.items;
  longer : IsLonger l.fn.seen.sets.keys l.seen.sets.keys;
  none : is_seen l.seen.sets.keys l.all ≡ false;
  looked : (rooms : ℕ → ℕ → Room) → g.T.Steps.is_by l.fn.steps rooms → (d : ℕ) → d < l.c → can_go rooms (carried l.flow.kept) (get_or l.fn.seen.sets.keys l.place 0) d ≡ true →
      is_seen l.seen.sets.keys (turned (get_or l.fn.seen.sets.keys l.place 0) d) ≡ true;
}
