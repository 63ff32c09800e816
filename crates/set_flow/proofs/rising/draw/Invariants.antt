use Rattle.std.proofs.Common.{◌≡◌, ℕ, ◌<◌, List, length}
use Rattle.irv_base.specs.Candidates.{candidates, set_of}
use Rattle.set_flow.specs.declared.room.Room.{Room}
use Rattle.set_flow.specs.Rooms.{AreRooms}
use Rattle.set_flow.specs.Kept.{carried}
use Rattle.set_flow.specs.Seen.{AreLinks}
use Rattle.set_flow.specs.Searched.{IsWay}
use Rattle.set_flow.proofs.Drawn.{IsDrawn}
use Rattle.set_flow.proofs.rising.draw.Given as goal

abbrev pub invariant-loop-place : goal.invariant-loop-place
invariant-loop-place l = record {
  within : l.place < length l.seen.sets.keys;
  drawn : (n all winner floor : ℕ) (records : List (List ℕ)) (rooms : ℕ → ℕ → Room) → AreRooms n winner records floor rooms → all ≡ set_of (candidates n) →
      IsWay n all l.seen → AreLinks rooms (carried l.fn.flow.kept) l.seen.sets.keys l.seen.from.items l.seen.by.items →
      IsDrawn n winner records floor (carried l.fn.flow.kept) l.seen.sets.keys l.place (carried l.flow.kept);
}

abbrev pub decreases-loop-place : goal.decreases-loop-place
decreases-loop-place l = l.place
