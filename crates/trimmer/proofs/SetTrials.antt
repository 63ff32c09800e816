-- A trial by sets.
use Rattle.std.proofs.Common.{◌≡◌, ◌≢◌, ℕ, ◌+◌, ◌^◌, ◌<◌, ◌≤◌, false, List, map, Some, Ok, Err, sym, ap, subst, arith, ◌∙◌}
use Rattle.budget.specs.declared.budget.Budget.TheVariants.{Sets}
use Rattle.assertions.specs.declared.assertion.Assertion.{Assertion}
use Rattle.assertions.specs.declared.assertion.Claim.{Claim}
use Rattle.assertion_file.specs.Content.{Content, candidate_count}
use Rattle.set_walk.specs.Walks.{passes}
use Rattle.cover_checker.specs.Covers.{covered_is, standing_order, verdict_on}
use Rattle.cover_checker.specs.Ends.{verdict_at}
use Rattle.cover_checker.specs.Reaching.{IsReach}
use Rattle.cover_checker.specs.declared.cover.CoverFault.{CoverFault}
use Rattle.cover_checker.specs.declared.cover.CoverFault.TheVariants.{Memory, SpentSets}
use Rattle.cover_checker.specs.declared.cover.Verdict.TheVariants.{Covered, Stands}
use Rattle.cover_checker.specs.declared.walk.SetWalk.{SetWalk}
use Rattle.cover_checker.specs.declared.walk.SetWalk.TheVariants.{Found}
use Rattle.cover_checker.proofs.Enough.{enough-verdict, sets-enough}
use Rattle.cover_checker.proofs.Verdicts.{ended-is, fault-is}
use Rattle.trimmer.specs.Counts.{ReachedWith}
use Rattle.trimmer.specs.Spreading.{AreReached}
use Rattle.trimmer.specs.Trimmed.{can_go, covered_by}
use Rattle.trimmer.proofs.Lefts.{assertion_in}

module _ (file : Content) (claims : List Claim) (number n winner sets : ℕ) (list : List Assertion) (count : n ≡ candidate_count file)
    (same : winner ≡ file.winner) (listed : list ≡ map assertion_in claims) where
  pub covered-same : covered_is n winner list (Sets sets) ≡ covered_by (Sets sets) file claims
  covered-same =
      ap (λ n. covered_is n winner list (Sets sets)) count ∙ ap (λ w. covered_is (candidate_count file) w list (Sets sets)) same
      ∙ ap (λ l. covered_is (candidate_count file) file.winner l (Sets sets)) listed

  pub goes-at : (end : SetWalk) → IsReach n winner sets (passes list) (Ok end) →
      can_go number (Ok (verdict_at end)) ≡ can_go number (covered_by (Sets sets) file claims)
  goes-at end walk = ap (can_go number) (ended-is n winner sets list end walk ∙ covered-same)

  pub fault-at : (fault : CoverFault) → IsReach n winner sets (passes list) (Err fault) → fault ≢ Memory →
      can_go number (Err fault) ≡ can_go number (covered_by (Sets sets) file claims)
  fault-at fault walk other = ap (can_go number) (fault-is n winner sets list fault walk other ∙ covered-same)

  -- an order stands, and the budget has as many sets as can count
  pub stands-at : (order : List ℕ) → standing_order n winner list ≡ Some order → winner < n → 1 < n → 2 ^ n ≤ sets + 3 →
      Ok false ≡ can_go number (covered_by (Sets sets) file claims)
  stands-at order stands below two all =
      ap (can_go number) (sym (ap (λ o. Ok (verdict_on o)) stands)
      ∙ sym (enough-verdict n winner list (Sets sets) (sets-enough n winner list sets below two (omega (arith, all)))) ∙ covered-same)

  pub reached-at : (reached : List ℕ) → AreReached n winner sets list reached → ReachedWith sets file claims reached
  reached-at reached h =
      subst (λ list. AreReached (candidate_count file) file.winner sets list reached) listed
      (subst (λ w. AreReached (candidate_count file) w sets list reached) same (subst (λ n. AreReached n winner sets list reached) count h))

-- if the claims cover, a walk neither finds an order nor runs out
module _ (file : Content) (claims : List Claim) (n winner sets : ℕ) (list : List Assertion) (count : n ≡ candidate_count file)
    (same : winner ≡ file.winner) (listed : list ≡ map assertion_in claims) (covered : covered_by (Sets sets) file claims ≡ Ok Covered) where
  pub never-found : (order : List ℕ) → IsReach n winner sets (passes list) (Ok (Found order)) → ⊥
  never-found order walk =
      let e : Ok (Stands order) ≡ Ok Covered =
      ended-is n winner sets list (Found order) walk ∙ covered-same file claims 0 n winner sets list count same listed ∙ covered in
      cc

  pub never-spent : (told : ℕ) → IsReach n winner sets (passes list) (Err (SpentSets told)) → ⊥
  never-spent told walk =
      let e : Err (SpentSets told) ≡ Ok Covered =
      fault-is n winner sets list (SpentSets told) walk (λ e. cc) ∙ covered-same file claims 0 n winner sets list count same listed ∙ covered in
      cc
