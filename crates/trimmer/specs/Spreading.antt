-- What else is reached when a claim is removed.
use Rattle.std.specs.Prelude.{◌≡◌, ◌≢◌, ◌⊎◌, ◌<◌, ◌≤◌, ℕ, false, List, ◌∷◌, ◌++◌, length, map, slice_index, Some, Ok, Contains, IsTrue, ⊤}
use Rattle.irv_base.specs.Candidates.{has}
use Rattle.assertions.specs.declared.assertion.Assertion.{Assertion}
use Rattle.assertions.specs.declared.assertion.Claim.{Claim}
use Rattle.assertions.specs.Steps.{more, is_anew}
use Rattle.set_walk.specs.Walks.{passes, standing}
use Rattle.cover_checker.specs.Covers.{standing_order}
use Rattle.cover_checker.specs.Reaching.{Extends, IsReach}
use Rattle.cover_checker.specs.declared.walk.SetWalk.TheVariants.{Ended}
use Rattle.trimmer.specs.Remaining.{Left}
use Rattle.trimmer.specs.declared.spread.Halt.{Halt}
use Rattle.trimmer.specs.declared.spread.Halt.TheVariants.{Stands, Spent, Memory}

-- no order stands, these are the sets that stand, and the budget has at least that many
abbrev pub AreReached : ℕ → ℕ → ℕ → List Assertion → List ℕ → Type 0
AreReached n winner budget list reached = IsReach n winner budget (passes list) (Ok (Ended reached))

-- the assertions with this claim between those that haven't been tried and those that stayed
abbrev pub assertions_with : Claim → Left → List Assertion
assertions_with claim left =
    map (λ claim. claim.assertion) (left.untried ++ claim ∷ left.kept)

-- the set is one of these, or it is the empty set and c isn't the winner; so c may be put in front
abbrev pub IsStart : ℕ → List ℕ → ℕ → ℕ → Type 0
IsStart winner sets set c = Contains sets set ⊎ ((set ≡ 0) × (c ≢ winner))

-- if no assertion keeps c from the front of the set, the set with c is reached
abbrev pub IsFollowed : List Assertion → List ℕ → ℕ → ℕ → Type 0
IsFollowed list reached set c = IsTrue (passes list set c) → Contains reached (more set c)

-- the same for each candidate outside the set
abbrev pub IsClosedAt : ℕ → List Assertion → List ℕ → ℕ → Type 0
IsClosedAt n list reached set =
    (c : ℕ) → c < n → has set c ≡ false → IsFollowed list reached set c

-- the same for each set that is new
abbrev pub AreNewClosed : ℕ → List Assertion → List ℕ → List ℕ → Type 0
AreNewClosed n list old new =
    (i : ℕ) → length old ≤ i → i < length new → IsClosedAt n list new (slice_index new i)

-- each step from these sets that this assertion keeps out, and that no assertion of the list does, is followed
abbrev pub AreOpenedFollowed : ℕ → ℕ → Assertion → List Assertion → List ℕ → List ℕ → Type 0
AreOpenedFollowed n winner a list old reached =
    (set c : ℕ) → IsStart winner old set c → c < n → has set c ≡ false →
    IsTrue (is_anew a set c) → IsFollowed list reached set c

-- each of these sets stands
abbrev pub AreStanding : ℕ → ℕ → List Assertion → List ℕ → Type 0
AreStanding n winner list sets =
    (set : ℕ) → Contains sets set → Contains (standing n winner (passes list)) set

-- more sets are reached; if the earlier ones stand, all do; if the earlier ones are within the budget, all are
pub record IsSpread (n winner budget : ℕ) (list : List Assertion) (old new : List ℕ) : Type 0 where
  pub were : Extends old new
  pub stand : AreStanding n winner list old → AreStanding n winner list new
  pub few : length old ≤ budget → length new ≤ budget

-- if it halts for an order, there is an order that stands
abbrev pub IsHalt : ℕ → ℕ → List Assertion → Halt → Type 0
IsHalt n winner list Stands = (order : List ℕ) × (standing_order n winner list ≡ Some order)
IsHalt n winner list Spent = ⊤
IsHalt n winner list Memory = ⊤
