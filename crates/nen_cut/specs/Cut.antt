-- The steps that leave some sets, and the NENs that cut them.
use Rattle.std.specs.Prelude.{◌≡◌, ℕ, Bool, true, false, ◌&&◌, List, map, filter, flat_map, Option, Some, None}
use Rattle.std.specs.List.{AllZip}
use Rattle.irv_base.specs.Candidates.{candidates}
use Rattle.assertions.specs.declared.assertion.Claim.{Claim}
use Rattle.assertions.specs.declared.assertion.Assertion.TheVariants.{Nen}
use Rattle.assertions.specs.Steps.{more}
use Rattle.set_walk.specs.Dives.{is_seen}
use Rattle.fewest.specs.Cuts.{is_leaving}
use Rattle.fewest.specs.Flows.{is_cuttable}
use Rattle.nen_cut.specs.declared.strongest.Strongest.{Strongest}
use Rattle.nen_cut.specs.Floors.{stands, IsStrongest}

-- the step leaves the sets, no NEB of the floor bars it, and a NEN of the floor can cut it
abbrev pub is_cut : ℕ → ℕ → List (List ℕ) → ℕ → (ℕ → Bool) → ℕ → ℕ → Bool
is_cut n winner records floor within set c =
    is_leaving within set c && (stands n winner records floor set c && is_cuttable n records floor set c)

-- these steps, from one set
abbrev pub cut_steps_from : ℕ → ℕ → List (List ℕ) → ℕ → (ℕ → Bool) → ℕ → List (ℕ × ℕ)
cut_steps_from n winner records floor within set =
    map (λ c. (set, c)) (filter (is_cut n winner records floor within set) (candidates n))

-- these steps, from each of the sets
abbrev pub cut_steps : ℕ → ℕ → List (List ℕ) → ℕ → List ℕ → List (ℕ × ℕ)
cut_steps n winner records floor sets =
    flat_map (cut_steps_from n winner records floor (is_seen sets)) sets

-- the claim is of the strongest NEN that refutes the step
pub record IsStepCutter (n : ℕ) (records : List (List ℕ)) (floor : ℕ) (step : ℕ × ℕ)
    (claim : Claim) : Type 0 where
  pub loser : ℕ
  pub nen : claim.assertion ≡ Nen step.1 loser (more step.0 step.1)
  pub strongest : IsStrongest n records floor step.1 (more step.0 step.1) loser claim.margin

-- the claims are those of the strongest NENs of the steps, one for each step
abbrev pub AreCutters : ℕ → List (List ℕ) → ℕ → List (ℕ × ℕ) → List Claim → Type 0
AreCutters n records floor = AllZip (IsStepCutter n records floor)

-- the claim is of a NEN, and no NEN of the floor that refutes the same step has a larger margin
abbrev pub IsStrongestNen : ℕ → List (List ℕ) → ℕ → Claim → Type 0
IsStrongestNen n records floor claim = (step : ℕ × ℕ) × IsStepCutter n records floor step claim

-- the strongest NEN that refutes the step, if the step is one of these
abbrev pub IsAcross : ℕ → ℕ → List (List ℕ) → ℕ → (ℕ → Bool) → ℕ → ℕ → Option Strongest → Type 0
IsAcross n winner records floor within set c None =
    is_cut n winner records floor within set c ≡ false
IsAcross n winner records floor within set c (Some nen) =
    (is_cut n winner records floor within set c ≡ true)
    × IsStrongest n records floor c (more set c) nen.loser nen.margin
