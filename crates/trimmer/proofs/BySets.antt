-- With a budget of sets, only running out of sets stops a trim.
use Rattle.std.proofs.Common.{◌≡◌, ℕ, ◌+◌, Bool, true, false, if◌then◌else◌, nat_lt, List, [], ◌∷◌, ◌++◌, length, map, Option, None, Some, Result, Ok, Err, refl, sym, ◌∙◌}
use Rattle.budget.specs.declared.budget.Budget.TheVariants.{Sets}
use Rattle.assertions.specs.declared.assertion.Assertion.{Assertion}
use Rattle.assertions.specs.declared.assertion.Claim.{Claim}
use Rattle.assertion_file.specs.Content.{Content, candidate_count}
use Rattle.cover_checker.specs.Covers.{or_spent, standing_order, standing_sets, verdict_on}
use Rattle.cover_checker.specs.declared.cover.CoverFault.TheVariants.{SpentSets as CoverSpentSets}
use Rattle.trimmer.specs.Trimmed.{can_go, covered_by, left_of, plan_left, tried, trimmed, unless_it_goes, with_claims}
use Rattle.trimmer.specs.declared.fault.TrimFault.{TrimFault}
use Rattle.trimmer.specs.declared.fault.TrimFault.TheVariants.{SpentSets}
use Rattle.trimmer.proofs.Lefts.{assertion_in}

fault-of : (claim : Claim) (later : List Claim) (r : Result Bool TrimFault) (fault : TrimFault) → unless_it_goes claim later r ≡ Err fault → r ≡ Err fault
fault-of claim later (Ok goes) fault e = absurd (cc e)
fault-of claim later (Err other) fault e = let same : other ≡ fault = cc e in λ i. Err (same i)

module _ (sets : ℕ) (file : Content) where
  -- the sets run out at some claim
  abbrev AreSpent : TrimFault → Type 0
  AreSpent fault = (claim : ℕ) × (fault ≡ SpentSets claim sets)

  trial-spends : (number : ℕ) (claims : List Claim) (fault : TrimFault) → can_go number (covered_by (Sets sets) file claims) ≡ Err fault → AreSpent fault
  trial-spends number claims fault e = by (nat_lt sets (standing_sets n file.winner list)) (standing_order n file.winner list) e where
    n : ℕ
    n = candidate_count file

    list : List Assertion
    list = map assertion_in claims

    by : (b : Bool) (left : Option (List ℕ)) → can_go number (or_spent (if b then Some (CoverSpentSets sets) else None) (verdict_on left)) ≡ Err fault →
        AreSpent fault
    by true left e = let same : SpentSets number sets ≡ fault = cc e in (number, sym same)
    by false None e = absurd (cc e)
    by false (Some order) e = absurd (cc e)

  left-spends : (earlier later : List Claim) (fault : TrimFault) → left_of (Sets sets) file earlier later ≡ Err fault → AreSpent fault
  left-spends earlier [] fault e = absurd (cc e)
  left-spends earlier (claim ∷ later) fault e =
      go (left-spends (earlier ++ claim ∷ []) later) (left_of (Sets sets) file (earlier ++ claim ∷ []) later) refl e where
        go : ((fault : TrimFault) → left_of (Sets sets) file (earlier ++ claim ∷ []) later ≡ Err fault → AreSpent fault) → (r : Result (List Claim) TrimFault) →
            left_of (Sets sets) file (earlier ++ claim ∷ []) later ≡ r → tried (Sets sets) file earlier claim r ≡ Err fault → AreSpent fault
        go before (Ok rest) is e =
            trial-spends (length earlier + 1) (earlier ++ rest) fault (fault-of claim rest (can_go (length earlier + 1) (covered_by (Sets sets) file (earlier ++ rest))) fault e)
        go before (Err other) is e = let same : other ≡ fault = cc e in before fault (is ∙ (λ i. Err (same i)))

  pub trim-spends : (fault : TrimFault) → trimmed (Sets sets) file ≡ Err fault → AreSpent fault
  trim-spends fault e = go (left_of (Sets sets) file [] file.claims) refl e where
    go : (r : Result (List Claim) TrimFault) → left_of (Sets sets) file [] file.claims ≡ r → with_claims file (plan_left (Sets sets) file) r ≡ Err fault →
        AreSpent fault
    go (Ok claims) is e = absurd (cc e)
    go (Err other) is e = let same : other ≡ fault = cc e in left-spends [] file.claims fault (is ∙ (λ i. Err (same i)))
