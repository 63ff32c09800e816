-- The laws of tabulation.
use Rattle.std.specs.Prelude.{◌≡◌, ◌≤◌, ◌⊎◌, ◌↔◌, ℕ, List, [], ◌∷◌, ◌++◌, IsTrue}
use Rattle.irv_base.specs.Candidates.{set_of}
use Rattle.irv_base.specs.Orders.{is_order, Elects}
use Rattle.irv_base.specs.Records.{tally}
use Rattle.irv_base.specs.Tabulation.{is_tabulated, is_possible, HasNoTie, IsFirstTie, AllElect, IsDecided}

-- ==== the tabulated order

abbrev pub TabulatedExists : Type 0
TabulatedExists =
    (n : ℕ) (records : List (List ℕ)) →
    (order : List ℕ) × IsTrue (is_order n order) × IsTrue (is_tabulated records order)

abbrev pub TabulatedIsOne : Type 0
TabulatedIsOne =
    (n : ℕ) (records : List (List ℕ)) (order other : List ℕ) → IsTrue (is_order n order) →
    IsTrue (is_tabulated records order) →
    IsTrue (is_order n other) → IsTrue (is_tabulated records other) → order ≡ other

abbrev pub TabulatedIsPossible : Type 0
TabulatedIsPossible =
    (records : List (List ℕ)) (order : List ℕ) → IsTrue (is_tabulated records order) →
    IsTrue (is_possible records order)

-- ==== ties

abbrev pub FirstTieIsOne : Type 0
FirstTieIsOne =
    (n : ℕ) (records : List (List ℕ)) (round tied votes round' tied' votes' : ℕ) → 1 ≤ round →
    1 ≤ round' →
    IsFirstTie n records round tied votes → IsFirstTie n records round' tied' votes' →
    (round ≡ round') × (tied ≡ tied') × (votes ≡ votes')

abbrev pub HasTie : ℕ → List (List ℕ) → Type 0
HasTie n records = (round tied votes : ℕ) × (1 ≤ round) × IsFirstTie n records round tied votes

-- there is a first tie, or no round of the tabulated order has one
abbrev pub TieOrNone : Type 0
TieOrNone =
    (n : ℕ) (records : List (List ℕ)) (order : List ℕ) → IsTrue (is_order n order) →
    IsTrue (is_tabulated records order) → HasTie n records ⊎ HasNoTie records order

-- and never both
abbrev pub TieAndNone : Type 0
TieAndNone =
    (n : ℕ) (records : List (List ℕ)) (order : List ℕ) → IsTrue (is_order n order) →
    IsTrue (is_tabulated records order) → HasTie n records → HasNoTie records order → ⊥

-- without a tie only one order is possible, and with a tie others are possible too
abbrev pub NoTieIsOnePossible : Type 0
NoTieIsOnePossible =
    (n : ℕ) (records : List (List ℕ)) (order : List ℕ) → IsTrue (is_order n order) →
    IsTrue (is_tabulated records order) →
    (HasNoTie records order
    ↔ ((other : List ℕ) → IsTrue (is_order n other) → IsTrue (is_possible records other) →
    other ≡ order))

-- ==== decided contests

-- if all possible orders elect one candidate, that candidate is the winner of the tabulated order
abbrev pub DecidedByTabulated : Type 0
DecidedByTabulated =
    (n winner : ℕ) (records : List (List ℕ)) (order : List ℕ) → IsTrue (is_order n order) →
    IsTrue (is_tabulated records order) → Elects order winner →
    (IsDecided n records ↔ AllElect n records winner)

-- a contest without a tie is decided, so one that isn't decided has a first tie
abbrev pub NoTieIsDecided : Type 0
NoTieIsDecided =
    (n winner : ℕ) (records : List (List ℕ)) (order : List ℕ) → IsTrue (is_order n order) →
    IsTrue (is_tabulated records order) → Elects order winner → HasNoTie records order →
    AllElect n records winner

-- two candidates who tie for the win are the last two of a possible order
abbrev pub TieForTheWin : Type 0
TieForTheWin =
    (n a b : ℕ) (records : List (List ℕ)) (before : List ℕ) →
    IsTrue (is_order n (before ++ a ∷ b ∷ [])) →
    IsTrue (is_possible records (before ++ a ∷ b ∷ [])) →
    tally records (set_of (a ∷ b ∷ [])) a ≡ tally records (set_of (a ∷ b ∷ [])) b →
    IsDecided n records → ⊥
