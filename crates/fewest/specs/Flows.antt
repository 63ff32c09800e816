-- What flows over the steps between sets of candidates, from the empty set to the set of all.
use Rattle.std.specs.Prelude.{◌≡◌, ◌≢◌, ℕ, ◌+◌, ◌≤◌, ◌^◌, Bool, not, ◌&&◌, ◌==◌, if◌then◌else◌, List, map, filter, flat_map, sum_by, count_by, IsTrue, IsFalse}
use Rattle.std.specs.List.{list_any, range_with_len}
use Rattle.irv_base.specs.Candidates.{candidates, has, set_of}
use Rattle.assertions.specs.declared.assertion.Assertion.TheVariants.{Neb, Nen}
use Rattle.assertions.specs.Steps.{more}
use Rattle.fewest.specs.Nens.{is_enough}
use Rattle.fewest.specs.Cuts.{is_step, is_leaving}

-- all steps: a set, and a candidate who can be put in front of it
abbrev pub steps : ℕ → ℕ → List (ℕ × ℕ)
steps n winner =
    filter (λ step. is_step n winner step.0 step.1)
    (flat_map (λ set. map (λ c. (set, c)) (candidates n)) (range_with_len 0 (2 ^ n)))

-- the step goes from outside these sets to one of them
abbrev pub is_entering : (ℕ → Bool) → ℕ → ℕ → Bool
is_entering within set c = not (within set) && within (more set c)

module _ (n winner : ℕ) (flow : ℕ → ℕ → ℕ) where
  -- what flows over the steps that pass a test
  abbrev pub flow_over : (ℕ → ℕ → Bool) → ℕ
  flow_over test =
      sum_by (λ step. if test step.0 step.1 then flow step.0 step.1 else 0) (steps n winner)

  abbrev pub flow_to : ℕ → ℕ
  flow_to set = flow_over (λ from c. more from c == set)

  abbrev pub flow_from : ℕ → ℕ
  flow_from set = flow_over (λ from c. from == set)

  -- what flows into a set flows out of it, except for the empty set and the set of all; one unit more flows into the set that holds a unit
  abbrev pub IsKeptBut : ℕ → Type 0
  IsKeptBut holder =
      (set : ℕ) → set ≢ 0 → set ≢ set_of (candidates n) →
      flow_to set ≡ flow_from set + (if set == holder then 1 else 0)

-- a NEN of the floor refutes the step
abbrev pub is_cuttable : ℕ → List (List ℕ) → ℕ → ℕ → ℕ → Bool
is_cuttable n records floor set c =
    list_any (λ l. is_enough n records floor (Nen c l (more set c))) (candidates n)

-- a NEB of the floor refutes the step
abbrev pub is_barred : ℕ → List (List ℕ) → ℕ → ℕ → ℕ → Bool
is_barred n records floor set c =
    list_any (λ w. is_enough n records floor (Neb w c) && not (has (more set c) w)) (candidates n)

-- a flow: kept, nothing over a step that a NEB bars, at most one over a step that a NEN can cut
pub record IsFlow (n winner : ℕ) (records : List (List ℕ)) (floor : ℕ) (flow : ℕ → ℕ → ℕ)
    : Type 0 where
  pub kept : IsKeptBut n winner flow 0
  pub none : (set c : ℕ) → IsTrue (is_step n winner set c) → IsTrue (is_barred n records floor set c) →
      flow set c ≡ 0
  pub one : (set c : ℕ) → IsTrue (is_step n winner set c) → IsTrue (is_cuttable n records floor set c) →
      flow set c ≤ 1

abbrev pub value : ℕ → ℕ → (ℕ → ℕ → ℕ) → ℕ
value n winner flow = flow_from n winner flow 0

-- the number of steps that leave these sets and that no NEB bars
abbrev pub leaving_count : ℕ → ℕ → List (List ℕ) → ℕ → (ℕ → Bool) → ℕ
leaving_count n winner records floor within =
    count_by
    (λ step. is_leaving within step.0 step.1 && not (is_barred n records floor step.0 step.1))
    (steps n winner)

-- nothing more can flow out of these sets: a step that leaves them carries one unit if no NEB bars it, and a step that enters them carries
-- nothing
pub record IsFull (n winner : ℕ) (records : List (List ℕ)) (floor : ℕ) (flow : ℕ → ℕ → ℕ)
    (within : ℕ → Bool) : Type 0 where
  pub leaving : (set c : ℕ) → IsTrue (is_step n winner set c) → IsTrue (is_leaving within set c) →
      IsFalse (is_barred n records floor set c) → flow set c ≡ 1
  pub entering : (set c : ℕ) → IsTrue (is_step n winner set c) → IsTrue (is_entering within set c) →
      flow set c ≡ 0

-- one unit more over this step, and the same over each other step
pub record HasOneMore (flow next : ℕ → ℕ → ℕ) (set c : ℕ) : Type 0 where
  pub here : next set c ≡ flow set c + 1
  pub elsewhere : (from d : ℕ) → IsFalse ((set == from) && (c == d)) → next from d ≡ flow from d
