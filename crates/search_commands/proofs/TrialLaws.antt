-- A trial is a search of its contest at floor 1, and doesn't run out of budget with enough nodes or sets.
use Rattle.std.proofs.Common.{◌≡◌, ◌⊎◌, inl, inr, ℕ, ◌<◌, ◌≤◌, ◌-◌, ◌*◌, ◌^◌, List, None, refl, ap, arith}
use Rattle.std.specs.Prelude.{◌↔◌}
use Rattle.irv_base.specs.declared.limits.TheConstants.{FEWEST_CANDIDATES}
use Rattle.assertions.specs.Suffixes.{factorial}
use Rattle.assertions.proofs.Decided.{decided-positive}
use Rattle.budget.specs.declared.budget.Budget.{Budget}
use Rattle.budget.specs.declared.budget.Budget.TheVariants.{Nodes, Sets}
use Rattle.ballots.specs.Ballots.{BallotFile}
use Rattle.assertion_file.specs.Content.{Content}
use Rattle.assertion_file.specs.Text.{assertion_file_text}
use Rattle.cover_checker.specs.Covers.{IsEnoughFor}
use Rattle.cli_base.specs.Outcome.{Verdict, Answered, One}
use Rattle.cli_base.specs.declared.outcome.AnswerKind.{AnswerKind}
use Rattle.cli_base.specs.declared.outcome.AnswerKind.TheVariants.{Done, Tie}
use Rattle.command.specs.declared.trial.TrialTask.{TrialTask}
use Rattle.contest_search.specs.Budget.{nodes_for, sets_of}
use Rattle.contest_search.specs.Certificate.{margin_of, IsCertificateOfDecided}
use Rattle.contest_search.specs.Contest.{candidate_count}
use Rattle.contest_search.proofs.Contests.{winner-below}
use Rattle.contest_search.proofs.Nodes.{nodes_are_few, spent_above}
use Rattle.contest_search.proofs.SetsNeeded.{sets_are_few}
use Rattle.search_commands.specs.Ends.{HasTie, HasSpent}
use Rattle.search_commands.specs.Laws.{IsAmongKinds}
use Rattle.search_commands.specs.Search.{printed, Finds, HasCertificate}
use Rattle.search_commands.specs.Trial.{contest_of, trial_text, HasLines, Tries}
use Rattle.search_commands.proofs.TrialCandidates.{length-trial_candidates}

-- ---- no margin is below floor 1

positive : (ballots : BallotFile) (file : Content) → 1 < candidate_count ballots → IsCertificateOfDecided ballots file → 1 ≤ file.margin
positive ballots file two c =
    let some = decided-positive (candidate_count ballots) c.winner ballots.rankings (winner-below ballots c.winner c.won) two c.decided in
    let same : file.margin ≡ margin_of ballots c.winner = ap (λ (f : Content). f.margin) c.is in
    omega (arith, some, same)

module _ (task : TrialTask) (kind : AnswerKind) (fewest : FEWEST_CANDIDATES ≤ task.candidates) where
  two : 1 < candidate_count (contest_of task)
  two = let long = length-trial_candidates task.candidates in omega (arith, fewest, long)

  searched_so : IsAmongKinds (Tries task) kind → IsAmongKinds (Finds task.budget 1 None (contest_of task)) kind
  searched_so (text, inl (other, has, e)) =
      let file = has.found.is in
      let shown = assertion_file_text (printed None has.file) in
      let done : kind ≡ Done = cc e in
      let found : HasCertificate task.budget 1 None (contest_of task) shown =
      record { file = has.file; is = has.found.is; within = has.found.within; floor = positive (contest_of task) has.file two has.found.is; shown = refl } in
      (shown, inl (shown, found, ap (λ k. Answered k shown) done))
  searched_so (text, inr (inl has)) = (text, inr (inl has))
  searched_so (text, inr (inr has)) = (text, inr (inr (inl has)))

  tried_so : IsAmongKinds (Finds task.budget 1 None (contest_of task)) kind → IsAmongKinds (Tries task) kind
  tried_so (text, inl (other, has, e)) =
      let shown = trial_text task.number has.file in
      let done : kind ≡ Done = cc e in
      let lines : HasLines task shown = record { file = has.file; found = record { is = has.is; within = has.within }; shown = refl } in
      (shown, inl (shown, lines, ap (λ k. Answered k shown) done))
  tried_so (text, inr (inl has)) = (text, inr (inl has))
  tried_so (text, inr (inr (inl has))) = (text, inr (inr has))
  tried_so (text, inr (inr (inr (other, has, e)))) =
      let some = positive (contest_of task) has.file two has.is in
      let below = has.floor in
      absurd (omega (arith, some, below))

  pub trial_is_a_search : IsAmongKinds (Tries task) kind ↔ IsAmongKinds (Finds task.budget 1 None (contest_of task)) kind
  trial_is_a_search = (searched_so, tried_so)

-- ---- enough nodes or sets

not_spent : (budget : Budget) (task : TrialTask) (text : List ℕ) → IsEnoughFor task.candidates budget → HasSpent budget (contest_of task) text → ⊥
not_spent (Nodes nodes) task text enough spent =
    let is = spent.is in
    let few : nodes_for (contest_of task) is.won.order is.winner spent.last ≤ 2 * factorial (candidate_count (contest_of task) - 1) =
    nodes_are_few (contest_of task) is.won.order is.winner spent.last is.named in
    let above : nodes < nodes_for (contest_of task) is.won.order is.winner spent.last =
    spent_above nodes (contest_of task) spent.last spent.order spent.margin is in
    let same : 2 * factorial (candidate_count (contest_of task) - 1) ≡ 2 * factorial (task.candidates - 1) =
    ap (λ n. 2 * factorial (n - 1)) (length-trial_candidates task.candidates) in
    omega (arith, enough, few, above, same)
not_spent (Sets sets) task text enough spent =
    let is = spent.is in
    let few : sets_of (contest_of task) is.winner ≤ 2 ^ candidate_count (contest_of task) - 3 = sets_are_few (contest_of task) is.winner is.won in
    let above : sets < sets_of (contest_of task) is.winner = is.above in
    let same : 2 ^ candidate_count (contest_of task) - 3 ≡ 2 ^ task.candidates - 3 = ap (λ n. 2 ^ n - 3) (length-trial_candidates task.candidates) in
    omega (arith, enough, few, above, same)

pub trial_is_complete : (task : TrialTask) (verdict : Verdict) → IsEnoughFor task.candidates task.budget → Tries task verdict →
    One (HasLines task) Done verdict ⊎ One (HasTie (contest_of task)) Tie verdict
trial_is_complete task verdict enough (inl a) = inl a
trial_is_complete task verdict enough (inr (inl (text, (tie, told), e))) = inr (text, tie, e)
trial_is_complete task verdict enough (inr (inr (text, spent, e))) = absurd (not_spent task.budget task text enough spent)
