-- The sets that a unit can reach.
use Rattle.std.specs.Prelude.{◌≡◌, ◌≢◌, ℕ, ◌+◌, ◌-◌, ◌<◌, ◌^◌, Bool, true, false, ◌&&◌, nat_lt, if◌then◌else◌, List, ◌++◌, length, get_or}
use Rattle.irv_base.specs.Candidates.{has}
use Rattle.assertions.specs.Steps.{more}
use Rattle.fewest.specs.Flows.{HasOneMore}
use Rattle.set_walk.specs.Dives.{is_seen}
use Rattle.set_flow.specs.declared.room.Room.{Room}
use Rattle.set_flow.specs.Rooms.{is_open, is_free}

-- the set without one of its members
abbrev pub less : ℕ → ℕ → ℕ
less set c = set - 2 ^ c

-- the set with the candidate added, or without a candidate who is in it
abbrev pub turned : ℕ → ℕ → ℕ
turned set c = if has set c then less set c else more set c

-- a unit at the set can go to the set with the candidate, if that step has room, or to the set without, if that step carries something
abbrev pub can_go : (ℕ → ℕ → Room) → (ℕ → ℕ → ℕ) → ℕ → ℕ → Bool
can_go rooms flow set c =
    if has set c then nat_lt 0 (flow (less set c) c) && is_open (rooms (less set c) c)
    else is_free (rooms set c) (flow set c)

-- different sets of candidates below n, the empty set first; each other set has an earlier place and a candidate
pub record AreLinked (n : ℕ) (sets from by : List ℕ) : Type 0 where
  pub from_each : length from ≡ length sets
  pub by_each : length by ≡ length sets
  pub some : 0 < length sets
  pub nobody : get_or sets 0 0 ≡ 0
  pub below : (k : ℕ) → k < length sets → get_or sets k 0 < 2 ^ n
  pub apart : (i k : ℕ) → i < k → k < length sets → get_or sets i 0 ≢ get_or sets k 0
  pub earlier : (k : ℕ) → 0 < k → k < length sets → get_or from k 0 < k
  pub candidate : (k : ℕ) → 0 < k → k < length sets → get_or by k 0 < n

module _ (rooms : ℕ → ℕ → Room) (flow : ℕ → ℕ → ℕ) (sets from by : List ℕ) where
  -- a unit can go to the set at this place from the set at the earlier place
  pub record IsLink (k : ℕ) : Type 0 where
    pub goes : can_go rooms flow (get_or sets (get_or from k 0) 0) (get_or by k 0) ≡ true
    pub to : get_or sets k 0 ≡ turned (get_or sets (get_or from k 0) 0) (get_or by k 0)

  abbrev pub AreLinks : Type 0
  AreLinks = (k : ℕ) → 0 < k → k < length sets → IsLink k

-- each set that a unit can go to from the sets before this place was seen
abbrev pub AreLooked : ℕ → (ℕ → ℕ → Room) → (ℕ → ℕ → ℕ) → List ℕ → ℕ → Type 0
AreLooked n rooms flow sets m =
    (k : ℕ) → k < m → (c : ℕ) → c < n → can_go rooms flow (get_or sets k 0) c ≡ true →
    is_seen sets (turned (get_or sets k 0) c) ≡ true

-- the set is one of the first m
abbrev pub IsAmongFirst : List ℕ → ℕ → ℕ → Type 0
IsAmongFirst sets m set = (k : ℕ) × (k < m) × (get_or sets k 0 ≡ set)

-- the same flows over steps between the first m sets
abbrev pub AreSame : List ℕ → ℕ → (ℕ → ℕ → ℕ) → (ℕ → ℕ → ℕ) → Type 0
AreSame sets m old new =
    (set c : ℕ) → IsAmongFirst sets m set → IsAmongFirst sets m (more set c) → new set c ≡ old set c

-- the old ones, followed by more
abbrev pub IsLonger : List ℕ → List ℕ → Type 0
IsLonger old new = (more : List ℕ) × (new ≡ old ++ more)

-- the set is the last, or isn't among them
abbrev pub IsReached : List ℕ → ℕ → Bool → Type 0
IsReached sets all true = (k : ℕ) × (length sets ≡ k + 1) × (get_or sets k 0 ≡ all)
IsReached sets all false = is_seen sets all ≡ false

-- one more unit flows over the step to a set that has the candidate, or one less over the step from a set that doesn't
pub record IsUndone (old new : ℕ → ℕ → ℕ) (set c : ℕ) : Type 0 where
  pub on : has set c ≡ true → HasOneMore old new (less set c) c
  pub back : has set c ≡ false → 0 < old set c → HasOneMore new old set c
