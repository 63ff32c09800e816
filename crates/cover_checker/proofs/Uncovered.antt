-- What `covered` answers for the claims of a file, as a finding.
use Rattle.std.proofs.Common.{◌≡◌, ◌≢◌, ℕ, List, Option, Result, Ok, Err, sym, ap, ◌∙◌}
use Rattle.budget.specs.declared.budget.Budget.{Budget}
use Rattle.assertions.specs.declared.assertion.Assertion.{Assertion}
use Rattle.assertion_file.specs.Content.{Content, candidate_count}
use Rattle.cover_checker.specs.Covers.{covered_is}
use Rattle.cover_checker.specs.Findings.{as_check_fault, Answer, assertions_of, uncovered, unless_covered, IsFindingOf}
use Rattle.cover_checker.specs.declared.cover.Verdict.{Verdict}
use Rattle.cover_checker.specs.declared.cover.CoverFault.{CoverFault}
use Rattle.cover_checker.specs.declared.cover.CoverFault.TheVariants.{Spent, SpentSets, Memory}

abbrev done : Verdict → Result Verdict CoverFault
done verdict = Ok verdict

abbrev failed : CoverFault → Result Verdict CoverFault
failed fault = Err fault

-- if these are the file's number of candidates, winner and assertions
module _ (budget : Budget) (file : Content) (n winner : ℕ) (list : List Assertion) (number : n ≡ candidate_count file) (same : winner ≡ file.winner)
    (listed : list ≡ assertions_of file) where
  covered-same : covered_is n winner list budget ≡ covered_is (candidate_count file) file.winner (assertions_of file) budget
  covered-same =
      ap (λ k. covered_is k winner list budget) number
      ∙ ap (λ w. covered_is (candidate_count file) w list budget) same
      ∙ ap (λ l. covered_is (candidate_count file) file.winner l budget) listed

  pub spent-found : (fault : CoverFault) → (failed fault ≢ failed Memory → Err fault ≡ covered_is n winner list budget) →
      IsFindingOf (uncovered budget file) (as_check_fault fault)
  spent-found (Spent last) e = ap unless_covered (sym (e (λ same. cc) ∙ covered-same))
  spent-found (SpentSets sets) e = ap unless_covered (sym (e (λ same. cc) ∙ covered-same))
  spent-found Memory e = tt

  pub verdict-found : (verdict : Verdict) (found : Option Answer) → (done verdict ≢ failed Memory → Ok verdict ≡ covered_is n winner list budget) →
      found ≡ unless_covered (Ok verdict) → found ≡ uncovered budget file
  verdict-found verdict found e h = h ∙ ap unless_covered (e (λ same. cc) ∙ covered-same)
