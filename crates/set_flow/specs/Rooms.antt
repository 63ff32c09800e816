-- The room of the steps between sets of candidates.
use Rattle.std.specs.Prelude.{◌≡◌, ℕ, ◌<◌, ◌^◌, Bool, true, false, not, ◌&&◌, ◌==◌, if◌then◌else◌, List}
use Rattle.irv_base.specs.Candidates.{has}
use Rattle.fewest.specs.Cuts.{is_step}
use Rattle.fewest.specs.Flows.{is_barred, is_cuttable}
use Rattle.set_flow.specs.declared.room.Room.{Room}
use Rattle.set_flow.specs.declared.room.Room.TheVariants.{Closed, One, Many}

-- nothing flows over a step that isn't there or that a NEB bars, at most one unit over a step that a NEN can cut, and any number over
-- another step
unfoldable pub room_of : ℕ → ℕ → List (List ℕ) → ℕ → ℕ → ℕ → Room
room_of n winner records floor set c =
    if is_step n winner set c && not (is_barred n records floor set c)
    then (if is_cuttable n records floor set c then One else Many) else Closed

-- these are the rooms of all steps
pub record AreRooms (n winner : ℕ) (records : List (List ℕ)) (floor : ℕ) (rooms : ℕ → ℕ → Room)
    : Type 0 where
  pub each : (set c : ℕ) → set < 2 ^ n → c < n → has set c ≡ false →
      rooms set c ≡ room_of n winner records floor set c

-- the step is there, and no NEB bars it
abbrev pub is_open : Room → Bool
is_open Closed = false
is_open One = true
is_open Many = true

-- there is room for one more unit
abbrev pub is_free : Room → ℕ → Bool
is_free Closed carries = false
is_free One carries = carries == 0
is_free Many carries = true
