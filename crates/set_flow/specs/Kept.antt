-- What a map records of the flow over steps.
use Rattle.std.specs.Prelude.{◌≡◌, ℕ, ◌+◌, ◌*◌, nat_eq, nat_lt, if◌then◌else◌, List, unwrap_or}
use Rattle.indexmap.specs.IndexMap.{IndexMap, get}
use Rattle.irv_base.specs.declared.limits.TheConstants.{ROOM}
use Rattle.fewest.specs.Flows.{IsFlow, value}

-- the number of a step
abbrev pub number_of : ℕ → ℕ → ℕ
number_of set c = ROOM * set + c

-- what flows over the step; a candidate who has no room carries nothing
abbrev pub carried : {S : Type 0} → IndexMap ℕ ℕ S → ℕ → ℕ → ℕ
carried kept set c = if nat_lt c ROOM then unwrap_or (get nat_eq kept (number_of set c)) 0 else 0

-- it is still a flow, with this many more units
pub record HasMore (n winner : ℕ) (records : List (List ℕ)) (floor : ℕ) (old new : ℕ → ℕ → ℕ)
    (units : ℕ) : Type 0 where
  pub flow : IsFlow n winner records floor new
  pub more : value n winner new ≡ value n winner old + units
