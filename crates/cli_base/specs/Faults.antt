-- A fault of the desk ends a call.
use Rattle.std.specs.Prelude.{◌≡◌, ◌≤◌, ◌<◌, ◌⊎◌, ℕ}

-- 7 and 9: a fault of the desk, or memory ran out
abbrev pub IsUnread : ℕ → Type 0
IsUnread status = (status ≡ 7) ⊎ (status ≡ 9)

-- The count of the desk's faults never falls. If it rises, the call ends with a fault of the desk, or memory runs out.
pub record IsFaultTold (before after status : ℕ) : Type 0 where
  pub never_fewer : before ≤ after
  pub rise_stops : before < after → IsUnread status
