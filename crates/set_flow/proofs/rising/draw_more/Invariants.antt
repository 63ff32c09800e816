use Rattle.std.proofs.Common.{◌≡◌, ℕ, List}
use Rattle.fewest.specs.Flows.{IsFlow}
use Rattle.set_flow.specs.declared.room.Room.{Room}
use Rattle.set_flow.specs.Rooms.{AreRooms}
use Rattle.set_flow.specs.Kept.{carried}
use Rattle.set_flow.proofs.rising.draw_more.Given as goal

abbrev pub invariant-loop-unit : goal.invariant-loop-unit
invariant-loop-unit g l = record {
  steps : l.steps ≡ l.fn.steps;
  flow : (winner floor : ℕ) (records : List (List ℕ)) (rooms : ℕ → ℕ → Room) → g.T.Steps.is_by l.fn.steps rooms →
      AreRooms l.n winner records floor rooms →
      IsFlow l.n winner records floor (carried l.fn.flow.kept) → IsFlow l.n winner records floor (carried l.flow.kept);
}
