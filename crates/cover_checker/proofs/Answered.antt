-- The findings in a file, as the answer.
use Rattle.std.proofs.Common.{◌≡◌, ℕ, true, length, Ok, Err, IfOk, IfErr, MatchBool, sym, subst}
use Rattle.budget.specs.declared.budget.Budget.{Budget}
use Rattle.ballots.specs.Ballots.{BallotFile}
use Rattle.assertion_file.specs.Content.{Content}
use Rattle.cover_checker.specs.Outcomes.{IsWinner}
use Rattle.cover_checker.specs.Findings.{Answer, is_about, IsErrOf, IsWant}
use Rattle.cover_checker.specs.Checks.{Judges, IsAnswer, IsFault, findings, first_found}
use Rattle.cover_checker.specs.declared.checked.Checked.TheVariants.{OtherContest, Accepted}
use Rattle.cover_checker.specs.declared.checked.CheckFault.{CheckFault}
use Rattle.cover_checker.specs.declared.checked.CheckFault.TheVariants.{Spent, SpentSets, Memory}

-- if the file is about the contest
module _ (budget : Budget) (ballots : BallotFile) (file : Content) (about : is_about ballots file ≡ true) where
  pub from_answer : (answer : Answer) → IsAnswer budget ballots file answer → Judges budget ballots file answer
  from_answer answer h = subst (λ b. MatchBool b (Judges budget ballots file answer) (answer ≡ Ok OtherContest)) about h

  pub judged : (answer : Answer) → Judges budget ballots file answer → IsAnswer budget ballots file answer
  judged answer j = subst (λ b. MatchBool b (Judges budget ballots file answer) (answer ≡ Ok OtherContest)) (sym about) j

  pub want-fault : (fault : CheckFault) → IsWant fault → IsFault budget ballots file fault
  want-fault (Spent last) h = absurd h
  want-fault (SpentSets sets) h = absurd h
  want-fault Memory h = h

  -- if there is a winner
  module _ (n winner : ℕ) (e : n ≡ length ballots.candidates) (won : IsWinner n ballots.rankings winner) where
    found_is : (answer : Answer) → first_found (findings budget ballots.rankings file winner) (Ok Accepted) ≡ answer → IsAnswer budget ballots file answer
    found_is answer h = judged answer (record { winner = winner; tabulated = subst (λ k. IsWinner k ballots.rankings winner) e won; answer_is = h })

    pub checked-answer : (result : Answer) → IfOk result (λ checked. first_found (findings budget ballots.rankings file winner) (Ok Accepted) ≡ Ok checked) →
        IfOk result (λ checked. IsAnswer budget ballots file (Ok checked))
    checked-answer (Ok checked) h = found_is (Ok checked) h
    checked-answer (Err fault) h = h

    fault-one : (fault : CheckFault) → IsErrOf (first_found (findings budget ballots.rankings file winner) (Ok Accepted)) fault →
        IsFault budget ballots file fault
    fault-one (Spent last) h = found_is (Err (Spent last)) h
    fault-one (SpentSets sets) h = found_is (Err (SpentSets sets)) h
    fault-one Memory h = h

    pub fault-answer : (result : Answer) → IfErr result (IsErrOf (first_found (findings budget ballots.rankings file winner) (Ok Accepted))) →
        IfErr result (IsFault budget ballots file)
    fault-answer (Ok checked) h = h
    fault-answer (Err fault) h = fault-one fault h
