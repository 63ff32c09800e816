-- The laws of flows: they bound the NENs of each list that covers, and a flow that fills a cut gives the fewest.
use Rattle.std.specs.Prelude.{◌≡◌, ℕ, ◌+◌, ◌<◌, ◌≤◌, ◌==◌, Bool, if◌then◌else◌, List, ◌++◌, IsTrue}
use Rattle.std.specs.List.{list_all}
use Rattle.assertions.specs.declared.assertion.Assertion.{Assertion}
use Rattle.assertions.specs.Steps.{more}
use Rattle.fewest.specs.Nens.{nen_count, is_enough}
use Rattle.fewest.specs.Cuts.{is_step, is_leaving, IsCut, CutsStanding}
use Rattle.fewest.specs.Apart.{IsComplete, HasFewest}
use Rattle.fewest.specs.Flows.{flow_over, flow_from, is_entering, IsKeptBut, IsFlow, IsFull, HasOneMore, value, leaving_count}

-- the value, plus what enters a cut, equals what leaves it
abbrev pub FlowLeaves : Type 0
FlowLeaves =
    (n winner : ℕ) (flow : ℕ → ℕ → ℕ) (within : ℕ → Bool) → IsKeptBut n winner flow 0 →
    IsCut n within →
    value n winner flow + flow_over n winner flow (is_entering within)
    ≡ flow_over n winner flow (is_leaving within)

-- a list that covers has at least as many NENs as the flow has units
abbrev pub FlowBounds : Type 0
FlowBounds =
    (n winner floor : ℕ) (records : List (List ℕ)) (flow : ℕ → ℕ → ℕ) (list : List Assertion) →
    0 < n → IsFlow n winner records floor flow → IsComplete n winner records floor list →
    value n winner flow ≤ nen_count list

-- if nothing more can flow out of some sets, the value is the number of steps that leave the sets and that no NEB bars
abbrev pub FullIsValue : Type 0
FullIsValue =
    (n winner floor : ℕ) (records : List (List ℕ)) (flow : ℕ → ℕ → ℕ) (within : ℕ → Bool) →
    IsFlow n winner records floor flow → IsCut n within → IsFull n winner records floor flow within →
    value n winner flow ≡ leaving_count n winner records floor within

-- so the list with the NEBs and a NEN for each of these steps has the fewest NENs
abbrev pub FullIsFewest : Type 0
FullIsFewest =
    (n winner floor : ℕ) (records : List (List ℕ)) (flow : ℕ → ℕ → ℕ) (within : ℕ → Bool)
    (nebs nens : List Assertion) → 0 < n → IsFlow n winner records floor flow → IsCut n within →
    IsFull n winner records floor flow within → CutsStanding n winner within nebs nens →
    IsTrue (list_all (is_enough n records floor) (nebs ++ nens)) →
    nen_count (nebs ++ nens) ≤ leaving_count n winner records floor within →
    HasFewest n winner records floor (nebs ++ nens)

-- a unit moves forward over a step
abbrev pub UnitGoesOn : Type 0
UnitGoesOn =
    (n winner set c : ℕ) (flow next : ℕ → ℕ → ℕ) → IsTrue (is_step n winner set c) →
    HasOneMore flow next set c → IsKeptBut n winner flow set →
    IsKeptBut n winner next (more set c)
    × ((from : ℕ) →
    flow_from n winner next from ≡ flow_from n winner flow from + (if set == from then 1 else 0))

-- or back over a step that carries something
abbrev pub UnitGoesBack : Type 0
UnitGoesBack =
    (n winner set c : ℕ) (flow next : ℕ → ℕ → ℕ) → IsTrue (is_step n winner set c) →
    HasOneMore next flow set c → IsKeptBut n winner flow (more set c) →
    IsKeptBut n winner next set
    × ((from : ℕ) →
    flow_from n winner flow from ≡ flow_from n winner next from + (if set == from then 1 else 0))
