-- Assertions that a list needs.
use Rattle.std.specs.Prelude.{◌⊎◌, ◌<◌, ℕ, not, List, length, filter, IsTrue}
use Rattle.assertions.specs.declared.assertion.Assertion.{Assertion}
use Rattle.assertions.specs.Certificate.{is_same}
use Rattle.assertions.specs.Suffixes.{IsAlternative}
use Rattle.cover_checker.specs.Covers.{stands}
use Rattle.set_walk.specs.Walks.{passes, standing}

-- an order that elects another candidate stands, since no assertion refutes it
abbrev pub IsOpen : ℕ → ℕ → List Assertion → Type 0
IsOpen n winner list = (order : List ℕ) × IsAlternative n winner order × IsTrue (stands list order)

-- an order stands, or more sets stand than the budget has
abbrev pub IsTooFew : ℕ → ℕ → ℕ → List Assertion → Type 0
IsTooFew n winner sets list =
    IsOpen n winner list ⊎ (sets < length (standing n winner (passes list)))

-- the other assertions of the list
abbrev pub others : Assertion → List Assertion → List Assertion
others a list = filter (λ b. not (is_same a b)) list

-- the list has too few assertions without this one, as far as the budget shows it
abbrev pub IsNeededWithin : ℕ → ℕ → ℕ → List Assertion → Assertion → Type 0
IsNeededWithin n winner sets list a = IsTooFew n winner sets (others a list)
