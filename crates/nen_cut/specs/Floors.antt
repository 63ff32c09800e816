-- The true assertions of at least a margin, the floor.
use Rattle.std.specs.Prelude.{◌≡◌, ℕ, ◌≤◌, Bool, true, false, not, ◌&&◌, if◌then◌else◌, List, length, map, filter, flat_map, Option, Some, None, IsTrue, IsFalse, ⊤}
use Rattle.irv_base.specs.Candidates.{candidates}
use Rattle.assertions.specs.declared.assertion.Assertion.{Assertion}
use Rattle.assertions.specs.declared.assertion.Assertion.TheVariants.{Neb, Nen}
use Rattle.assertions.specs.declared.assertion.Claim.{Claim}
use Rattle.assertions.specs.Assertions.{true_margin}
use Rattle.set_walk.specs.Walks.{standing}
use Rattle.nen_cut.specs.declared.strongest.Strongest.{Strongest}
use Rattle.fewest.specs.Nens.{is_enough}
use Rattle.fewest.specs.Apart.{IsComplete}
use Rattle.fewest.specs.Cuts.{is_step}
use Rattle.fewest.specs.Flows.{is_barred, is_cuttable}

abbrev pub assertions_in : List Claim → List Assertion
assertions_in claims = map (λ claim. claim.assertion) claims

-- the number of sets that the NEBs of the floor leave standing
abbrev pub sets_beside : ℕ → List (List ℕ) → ℕ → ℕ → ℕ
sets_beside n records winner floor =
    length (standing n winner (λ set c. not (is_barred n records floor set c)))

-- the margin of an assertion, if it is of the floor
abbrev pub margin_of : ℕ → List (List ℕ) → ℕ → Assertion → Option ℕ
margin_of n records floor a =
    if is_enough n records floor a then Some (true_margin records a) else None

-- the true NEBs of the floor by one winner; then all of them, in the fixed order
abbrev pub nebs_by : ℕ → List (List ℕ) → ℕ → ℕ → List Assertion
nebs_by n records floor w = filter (is_enough n records floor) (map (Neb w) (candidates n))

abbrev pub nebs : ℕ → List (List ℕ) → ℕ → List Assertion
nebs n records floor = flat_map (nebs_by n records floor) (candidates n)

-- the NEN of w over this loser is of the floor and has this margin, and no other NEN that says that w isn't eliminated next from the set
-- has a larger one
pub record IsStrongest (n : ℕ) (records : List (List ℕ)) (floor w rest loser margin : ℕ)
    : Type 0 where
  pub measured : margin ≡ true_margin records (Nen w loser rest)
  pub enough : IsTrue (is_enough n records floor (Nen w loser rest))
  pub most : (l : ℕ) → IsTrue (is_enough n records floor (Nen w l rest)) →
      true_margin records (Nen w l rest) ≤ margin

-- the strongest NEN of the floor that says that w isn't eliminated next from the set, if there is one
abbrev pub IsCutter : ℕ → List (List ℕ) → ℕ → ℕ → ℕ → Option Strongest → Type 0
IsCutter n records floor w rest None =
    (l : ℕ) → IsFalse (is_enough n records floor (Nen w l rest))
IsCutter n records floor w rest (Some nen) =
    IsStrongest n records floor w rest nen.loser nen.margin

-- the step is one of an order that elects a candidate other than the winner, and no NEB of the floor bars it
abbrev pub stands : ℕ → ℕ → List (List ℕ) → ℕ → ℕ → ℕ → Bool
stands n winner records floor set c =
    is_step n winner set c && not (is_barred n records floor set c)

-- no NEB of the floor bars the step, and no NEN of the floor can cut it
abbrev pub escapes : ℕ → ℕ → List (List ℕ) → ℕ → ℕ → ℕ → Bool
escapes n winner records floor set c =
    stands n winner records floor set c && not (is_cuttable n records floor set c)

-- no assertions of the floor cover
abbrev pub IsUncovered : ℕ → ℕ → List (List ℕ) → ℕ → Type 0
IsUncovered n winner records floor =
    (list : List Assertion) → IsComplete n winner records floor list → ⊥

-- if the answer is no, no assertions of the floor cover
abbrev pub IsCoveredBy : ℕ → ℕ → List (List ℕ) → ℕ → Bool → Type 0
IsCoveredBy n winner records floor true = ⊤
IsCoveredBy n winner records floor false = IsUncovered n winner records floor
