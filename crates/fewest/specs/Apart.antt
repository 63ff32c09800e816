-- Orders that each need their own NEN, and lists with the fewest NENs.
use Rattle.std.specs.Prelude.{ℕ, ◌≤◌, List, Contains, AllPairs, IsTrue, IsFalse}
use Rattle.std.specs.List.{list_all}
use Rattle.assertions.specs.declared.assertion.Assertion.{Assertion}
use Rattle.assertions.specs.Refutation.{refutes, covers}
use Rattle.assertions.specs.Suffixes.{IsAlternative}
use Rattle.fewest.specs.Nens.{is_nen, nen_count, is_enough}

-- no NEN of the floor refutes both orders
abbrev pub IsApart : ℕ → List (List ℕ) → ℕ → List ℕ → List ℕ → Type 0
IsApart n records floor order other =
    (a : Assertion) → IsTrue (is_nen a) → IsTrue (is_enough n records floor a) →
    IsTrue (refutes a order) → IsFalse (refutes a other)

-- orders that elect other candidates; no NEB of the floor refutes any of them, and no NEN of the floor refutes two of them
pub record AreApart (n winner : ℕ) (records : List (List ℕ)) (floor : ℕ) (orders : List (List ℕ))
    : Type 0 where
  pub alternative : (order : List ℕ) → Contains orders order → IsAlternative n winner order
  pub no_neb : (order : List ℕ) → Contains orders order → (a : Assertion) → IsFalse (is_nen a) →
      IsTrue (is_enough n records floor a) → IsFalse (refutes a order)
  pub one_each : AllPairs (IsApart n records floor) orders

-- the assertions are proper, true and of the floor, and cover
pub record IsComplete (n winner : ℕ) (records : List (List ℕ)) (floor : ℕ) (list : List Assertion)
    : Type 0 where
  pub enough : IsTrue (list_all (is_enough n records floor) list)
  pub covering : IsTrue (covers n winner list)

-- and no other list that does so has fewer NENs
pub record HasFewest (n winner : ℕ) (records : List (List ℕ)) (floor : ℕ) (list : List Assertion)
    : Type 0 where
  pub complete : IsComplete n winner records floor list
  pub least : (other : List Assertion) → IsComplete n winner records floor other →
      nen_count list ≤ nen_count other
