-- The laws of cuts, and of the orders that bound them.
use Rattle.std.specs.Prelude.{ℕ, ◌<◌, ◌≤◌, ◌↔◌, Bool, List, ◌++◌, length, IsTrue}
use Rattle.std.specs.List.{list_all}
use Rattle.assertions.specs.declared.assertion.Assertion.{Assertion}
use Rattle.assertions.specs.Refutation.{covers}
use Rattle.fewest.specs.Nens.{nen_count, is_enough}
use Rattle.fewest.specs.Cuts.{IsCut, Cuts, CutsStanding}
use Rattle.fewest.specs.Apart.{AreApart, IsComplete, HasFewest}

-- NEBs and NENs cover together if the NENs refute each step that leaves a cut and that the NEBs don't refute
abbrev pub CutCovers : Type 0
CutCovers =
    (n winner : ℕ) (within : ℕ → Bool) (nebs nens : List Assertion) → IsCut n within →
    CutsStanding n winner within nebs nens → IsTrue (covers n winner (nebs ++ nens))

-- a list covers exactly if it refutes each step that leaves some cut
abbrev pub CoversWhereCut : Type 0
CoversWhereCut =
    (n winner : ℕ) (list : List Assertion) → 0 < n →
    (IsTrue (covers n winner list)
    ↔ ((within : ℕ → Bool) × IsCut n within × Cuts n winner within list))

-- a list that covers has at least as many NENs as there are orders that each need their own NEN
abbrev pub Fewest : Type 0
Fewest =
    (n winner floor : ℕ) (records orders : List (List ℕ)) (list : List Assertion) →
    AreApart n winner records floor orders → IsComplete n winner records floor list →
    length orders ≤ nen_count list

-- a cut with at most as many NENs as there are such orders has the fewest
abbrev pub CutIsFewest : Type 0
CutIsFewest =
    (n winner floor : ℕ) (records orders : List (List ℕ)) (within : ℕ → Bool)
    (nebs nens : List Assertion) → IsCut n within → CutsStanding n winner within nebs nens →
    IsTrue (list_all (is_enough n records floor) (nebs ++ nens)) →
    AreApart n winner records floor orders → nen_count (nebs ++ nens) ≤ length orders →
    HasFewest n winner records floor (nebs ++ nens)
