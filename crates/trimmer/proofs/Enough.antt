-- With a budget that is enough, no trial runs out.
use Rattle.std.proofs.Common.{◌≡◌, ℕ, ◌+◌, List, [], ◌∷◌, ◌++◌, length, map, Result, Ok, Err, refl, arith}
use Rattle.budget.specs.declared.budget.Budget.{Budget}
use Rattle.budget.specs.declared.budget.Budget.TheVariants.{Nodes, Sets}
use Rattle.assertions.specs.declared.assertion.Claim.{Claim}
use Rattle.assertion_file.specs.Content.{Content, candidate_count}
use Rattle.cover_checker.specs.Covers.{IsEnough}
use Rattle.cover_checker.specs.declared.cover.Verdict.{Verdict}
use Rattle.cover_checker.specs.declared.cover.Verdict.TheVariants.{Covered, Stands}
use Rattle.cover_checker.specs.declared.cover.CoverFault.{CoverFault}
use Rattle.cover_checker.proofs.Enough.{never_fails, nodes-enough, sets-enough}
use Rattle.trimmer.specs.Laws.{TrimIsNeverSpent, TrimBySetsIsNeverSpent}
use Rattle.trimmer.specs.Trimmed.{can_go, unless_it_goes, with_claims, covered_by, tried, left_of, plan_left, trimmed}
use Rattle.trimmer.specs.declared.fault.TrimFault.{TrimFault}
use Rattle.trimmer.specs.declared.fault.TrimFault.TheVariants.{Spent, SpentSets}
use Rattle.trimmer.proofs.Lefts.{assertion_in}

trial-never : (number : ℕ) (claim : Claim) (later : List Claim) (r : Result Verdict CoverFault) → ((fault : CoverFault) → r ≡ Err fault → ⊥) →
    (fault : TrimFault) → unless_it_goes claim later (can_go number r) ≡ Err fault → ⊥
trial-never number claim later (Ok Covered) never fault e = cc e
trial-never number claim later (Ok (Stands order)) never fault e = cc e
trial-never number claim later (Err other) never fault e = never other refl

module _ (budget : Budget) (file : Content)
    (enough : (claims : List Claim) → IsEnough budget (candidate_count file) file.winner (map assertion_in claims)) where
  covered-never : (claims : List Claim) (fault : CoverFault) → covered_by budget file claims ≡ Err fault → ⊥
  covered-never claims fault is = never_fails (candidate_count file) file.winner (map assertion_in claims) budget fault (enough claims) is

  left-never : (earlier later : List Claim) (fault : TrimFault) → left_of budget file earlier later ≡ Err fault → ⊥
  left-never earlier [] fault e = cc e
  left-never earlier (claim ∷ later) fault e =
      go (left-never (earlier ++ claim ∷ []) later) (left_of budget file (earlier ++ claim ∷ []) later) refl e where
        go : ((fault : TrimFault) → left_of budget file (earlier ++ claim ∷ []) later ≡ Err fault → ⊥) → (r : Result (List Claim) TrimFault) →
            left_of budget file (earlier ++ claim ∷ []) later ≡ r → tried budget file earlier claim r ≡ Err fault → ⊥
        go never (Ok rest) is e =
            trial-never (length earlier + 1) claim rest (covered_by budget file (earlier ++ rest)) (covered-never (earlier ++ rest)) fault e
        go never (Err other) is e = never other is

  pub file-never : (fault : TrimFault) → trimmed budget file ≡ Err fault → ⊥
  file-never fault e = go (left_of budget file [] file.claims) refl e where
    go : (r : Result (List Claim) TrimFault) → left_of budget file [] file.claims ≡ r → with_claims file (plan_left budget file) r ≡ Err fault → ⊥
    go (Ok claims) is e = cc e
    go (Err other) is e = left-never [] file.claims other is

pub trim_is_never_spent : TrimIsNeverSpent
trim_is_never_spent nodes file enough at last e =
    file-never (Nodes nodes) file (λ claims. nodes-enough (candidate_count file) file.winner (map assertion_in claims) nodes enough) (Spent at last) e

pub trim_by_sets_is_never_spent : TrimBySetsIsNeverSpent
trim_by_sets_is_never_spent sets file sound enough at told e =
    file-never (Sets sets) file (λ claims. sets-enough (candidate_count file) file.winner (map assertion_in claims) sets sound.winner
    (omega (arith, sound.fewest)) enough) (SpentSets at told) e
