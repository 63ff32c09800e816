-- A file has only one answer.
use Rattle.std.proofs.Common.{◌≡◌, ℕ, Bool, true, false, List, Ok, length, MatchBool, sym, ap, ◌∙◌}
use Rattle.irv_base.proofs.Tabulated.{tabulated_is_one}
use Rattle.irv_base.proofs.Decided.{elects-same}
use Rattle.budget.specs.declared.budget.Budget.{Budget}
use Rattle.ballots.specs.Ballots.{BallotFile}
use Rattle.assertion_file.specs.Content.{Content}
use Rattle.cover_checker.specs.Outcomes.{IsWinner}
use Rattle.cover_checker.specs.Findings.{Answer, is_about}
use Rattle.cover_checker.specs.Checks.{Judges, IsAnswer, checked_is}
use Rattle.cover_checker.specs.declared.checked.Checked.TheVariants.{OtherContest}

pub one_winner : (n : ℕ) (records : List (List ℕ)) (winner other : ℕ) → IsWinner n records winner → IsWinner n records other → winner ≡ other
one_winner n records winner other h k =
    let (before, e) = h.elects in
    let (before', e') = k.elects in
    let same = tabulated_is_one n records h.order k.order h.permutation h.tabulated k.permutation k.tabulated in
    elects-same before before' winner other (sym e ∙ same ∙ e')

pub answer_is_one : (budget : Budget) (ballots : BallotFile) (file : Content) (answer other : Answer) →
    IsAnswer budget ballots file answer → IsAnswer budget ballots file other → answer ≡ other
answer_is_one budget ballots file answer other h k = go (is_about ballots file) h k where
  go : (b : Bool) → MatchBool b (Judges budget ballots file answer) (answer ≡ Ok OtherContest) →
      MatchBool b (Judges budget ballots file other) (other ≡ Ok OtherContest) → answer ≡ other
  go true h k =
      sym h.answer_is
      ∙ ap (checked_is budget ballots.rankings file) (one_winner (length ballots.candidates) ballots.rankings h.winner k.winner h.tabulated k.tabulated)
      ∙ k.answer_is
  go false h k = h ∙ sym k
