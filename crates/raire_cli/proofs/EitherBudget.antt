-- Searches with two budgets come to one end unless a budget runs out. Searches and trials by sets come to one end.
use Rattle.std.proofs.Common.{◌≡◌, ◌⊎◌, inl, inr, ℕ, ◌<◌, ◌≤◌, Bool, true, false, List, Option, MatchBool, refl, sym, ap, subst, arith, ◌∙◌}
use Rattle.assertions.specs.Hardness.{first_bound, start_order}
use Rattle.ballots.specs.Ballots.{BallotFile}
use Rattle.ballots.specs.Grammar.{ballots_of}
use Rattle.assertion_file.specs.Content.{Content}
use Rattle.assertion_file.specs.Text.{assertion_file_text}
use Rattle.budget.specs.declared.budget.Budget.{Budget}
use Rattle.budget.specs.declared.budget.Budget.TheVariants.{Sets}
use Rattle.cli_base.specs.Outcome.{Verdict, Answered, One, outcome}
use Rattle.cli_base.specs.Script.{Agree, Same, SameButBudget}
use Rattle.cli_base.specs.declared.outcome.AnswerKind.TheVariants.{Done, Tie, Spent, FullCount}
use Rattle.cli_base.proofs.Ended.{of_answers}
use Rattle.command.specs.declared.plan_terms.PlanTerms.{PlanTerms}
use Rattle.command.specs.declared.search.SearchTask.{SearchTask}
use Rattle.command.specs.declared.trial.TrialTask.{TrialTask}
use Rattle.contest_search.specs.Budget.{sets_of, IsInBudget, IsTold}
use Rattle.contest_search.specs.Contest.{candidate_count, IsWon}
use Rattle.contest_search.proofs.Certificates.{certificate-one}
use Rattle.contest_search.proofs.Contests.{same_tabulated, winner-one}
use Rattle.input_files.specs.Judged.{told}
use Rattle.input_files.specs.Refusals.{refused_ballots}
use Rattle.input_files.proofs.Going.{go_on-agrees}
use Rattle.report.specs.Ends.{spent_sets_text}
use Rattle.search_commands.specs.Ends.{HasSpent}
use Rattle.search_commands.specs.Search as search
use Rattle.search_commands.specs.Search.{HasCertificate, HasFullCount, Finds, Searches, full_count_text, has_cards, more_ballots, printed}
use Rattle.search_commands.specs.Trial as trial
use Rattle.search_commands.specs.Trial.{Tries, contest_of}
use Rattle.search_commands.proofs.Searches.{spent_by_sets_exactly}
use Rattle.search_commands.proofs.Ties.{never_both, tie-one}
use Rattle.search_commands.proofs.Tried.{agrees}

-- ---- two budgets

module _ (some more : Budget) (least : ℕ) (plan : Option PlanTerms) (ballots : BallotFile) where
  done-one : (text other : List ℕ) → HasCertificate some least plan ballots text → HasCertificate more least plan ballots other → text ≡ other
  done-one text other a b =
      a.shown ∙ ap (λ f. assertion_file_text (printed plan f)) (certificate-one ballots a.file b.file a.is b.is) ∙ sym b.shown

  full-one : (text other : List ℕ) → HasFullCount some least ballots text → HasFullCount more least ballots other → text ≡ other
  full-one text other a b = a.shown ∙ ap (λ f. full_count_text f least) (certificate-one ballots a.file b.file a.is b.is) ∙ sym b.shown

  done-full : (text other : List ℕ) → HasCertificate some least plan ballots text → HasFullCount more least ballots other → ⊥
  done-full text other a b =
      let same = ap (λ (f : Content). f.margin) (certificate-one ballots a.file b.file a.is b.is) in
      omega (arith, same, a.floor, b.floor)

  full-done : (text other : List ℕ) → HasFullCount some least ballots text → HasCertificate more least plan ballots other → ⊥
  full-done text other a b =
      let same = ap (λ (f : Content). f.margin) (certificate-one ballots a.file b.file a.is b.is) in
      omega (arith, same, a.floor, b.floor)

  found-either : (v w : Verdict) → Finds some least plan ballots v → Finds more least plan ballots w → SameButBudget (outcome v) (outcome w)
  found-either v w (inl (text, a, i)) (inl (other, b, j)) = inl (ap outcome (i ∙ ap (Answered Done) (done-one text other a b) ∙ sym j))
  found-either v w (inl (text, a, i)) (inr (inl (other, b, j))) = absurd (never_both ballots a.is.winner other a.is.decided b.0)
  found-either v w (inl (text, a, i)) (inr (inr (inl (other, b, j)))) =
      of_answers Done Spent text other v w i j (inr (inl refl, inr (inr (inl refl)), inr refl))
  found-either v w (inl (text, a, i)) (inr (inr (inr (other, b, j)))) = absurd (done-full text other a b)
  found-either v w (inr (inl (text, a, i))) (inl (other, b, j)) = absurd (never_both ballots b.is.winner text b.is.decided a.0)
  found-either v w (inr (inl (text, a, i))) (inr (inl (other, b, j))) =
      inl (ap outcome (i ∙ ap (Answered Tie) (tie-one ballots text other a.0 b.0) ∙ sym j))
  found-either v w (inr (inl (text, a, i))) (inr (inr (inl (other, b, j)))) =
      of_answers Tie Spent text other v w i j (inr (inr (inl refl), inr (inr (inl refl)), inr refl))
  found-either v w (inr (inl (text, a, i))) (inr (inr (inr (other, b, j)))) = absurd (never_both ballots b.is.winner text b.is.decided a.0)
  found-either v w (inr (inr (inl (text, a, i)))) (inl (other, b, j)) =
      of_answers Spent Done text other v w i j (inr (inr (inr (inl refl)), inl refl, inl refl))
  found-either v w (inr (inr (inl (text, a, i)))) (inr (inl (other, b, j))) =
      of_answers Spent Tie text other v w i j (inr (inr (inr (inl refl)), inr (inl refl), inl refl))
  found-either v w (inr (inr (inl (text, a, i)))) (inr (inr (inl (other, b, j)))) =
      of_answers Spent Spent text other v w i j (inr (inr (inr (inl refl)), inr (inr (inl refl)), inl refl))
  found-either v w (inr (inr (inl (text, a, i)))) (inr (inr (inr (other, b, j)))) =
      of_answers Spent FullCount text other v w i j (inr (inr (inr (inl refl)), inr (inr (inr refl)), inl refl))
  found-either v w (inr (inr (inr (text, a, i)))) (inl (other, b, j)) = absurd (full-done text other a b)
  found-either v w (inr (inr (inr (text, a, i)))) (inr (inl (other, b, j))) = absurd (never_both ballots a.is.winner other a.is.decided b.0)
  found-either v w (inr (inr (inr (text, a, i)))) (inr (inr (inl (other, b, j)))) =
      of_answers FullCount Spent text other v w i j (inr (inr (inr (inr refl)), inr (inr (inl refl)), inr refl))
  found-either v w (inr (inr (inr (text, a, i)))) (inr (inr (inr (other, b, j)))) =
      inl (ap outcome (i ∙ ap (Answered FullCount) (full-one text other a b) ∙ sym j))

-- the ballots are refused with either budget
pub searched-either : (task : SearchTask) (some more : Budget) (few many : ℕ) (ballots : BallotFile) (v w : Verdict) →
    Searches (record task { budget = some; workers = few }) ballots v → Searches (record task { budget = more; workers = many }) ballots w →
    SameButBudget (outcome v) (outcome w)
searched-either task some more few many ballots v w = by (has_cards task.plan ballots) where
  by : (b : Bool) → MatchBool b (Finds some task.floor task.plan ballots v) (v ≡ more_ballots task.ballots) →
      MatchBool b (Finds more task.floor task.plan ballots w) (w ≡ more_ballots task.ballots) → SameButBudget (outcome v) (outcome w)
  by true a b = found-either some more task.floor task.plan ballots v w a b
  by false a b = inl (ap outcome (a ∙ sym b))

-- ---- by sets

module _ (sets : ℕ) (ballots : BallotFile) where
  spent-one : (text other : List ℕ) → HasSpent (Sets sets) ballots text → HasSpent (Sets sets) ballots other → text ≡ other
  spent-one text other a b =
      let tabulated = same_tabulated ballots a.is.winner b.is.winner a.is.won b.is.won in
      let order : a.order ≡ b.order = a.is.start ∙ ap start_order tabulated ∙ sym b.is.start in
      let margin : a.margin ≡ b.margin =
      a.is.hardness ∙ ap (first_bound (candidate_count ballots) ballots.rankings) tabulated ∙ sym b.is.hardness in
      a.shown ∙ (λ i. spent_sets_text ballots.candidates sets (order i) (margin i)) ∙ sym b.shown

  -- a search that ends with status 4 has run out of budget
  module _ (least : ℕ) (plan : Option PlanTerms) where
    is_spent : (v : Verdict) → Finds (Sets sets) least plan ballots v → (outcome v).status ≡ 4 → One (HasSpent (Sets sets) ballots) Spent v
    is_spent v (inl (text, a, i)) four = let e : 0 ≡ 4 = sym (ap (λ v. (outcome v).status) i) ∙ four in absurd (cc e)
    is_spent v (inr (inl (text, a, i))) four = let e : 3 ≡ 4 = sym (ap (λ v. (outcome v).status) i) ∙ four in absurd (cc e)
    is_spent v (inr (inr (inl spent))) four = spent
    is_spent v (inr (inr (inr (text, a, i)))) four = let e : 5 ≡ 4 = sym (ap (λ v. (outcome v).status) i) ∙ four in absurd (cc e)

    -- and then another search has too
    with-spent : (v w : Verdict) → One (HasSpent (Sets sets) ballots) Spent v → Finds (Sets sets) least plan ballots w → outcome v ≡ outcome w
    with-spent v w (text, has, is) found =
        let exactly = spent_by_sets_exactly sets least plan ballots has.is.winner has.is.won in
        let (other, its, e) = (exactly w found).1 ((exactly v (inr (inr (inl (text, has, is))))).0 (text, has, is)) in
        ap outcome (is ∙ ap (Answered Spent) (spent-one text other has its) ∙ sym e)

    by_status : (v w : Verdict) → Finds (Sets sets) least plan ballots v → Finds (Sets sets) least plan ballots w → SameButBudget (outcome v) (outcome w) →
        outcome v ≡ outcome w
    by_status v w a b (inl same) = same
    by_status v w a b (inr (budgeted, other, inl four)) = with-spent v w (is_spent v a four) b
    by_status v w a b (inr (budgeted, other, inr four)) = sym (with-spent w v (is_spent w b four) a)

    found-one : (v w : Verdict) → Finds (Sets sets) least plan ballots v → Finds (Sets sets) least plan ballots w → outcome v ≡ outcome w
    found-one v w a b = by_status v w a b (found-either (Sets sets) (Sets sets) least plan ballots v w a b)

searched-one : (task : SearchTask) (sets : ℕ) → task.budget ≡ Sets sets → (ballots : BallotFile) (v w : Verdict) → Searches task ballots v →
    Searches task ballots w → outcome v ≡ outcome w
searched-one task sets is ballots v w = by (has_cards task.plan ballots) where
  by : (b : Bool) → MatchBool b (Finds task.budget task.floor task.plan ballots v) (v ≡ more_ballots task.ballots) →
      MatchBool b (Finds task.budget task.floor task.plan ballots w) (w ≡ more_ballots task.ballots) → outcome v ≡ outcome w
  by true a b =
      found-one sets ballots task.floor task.plan v w (subst (λ budget. Finds budget task.floor task.plan ballots v) is a)
      (subst (λ budget. Finds budget task.floor task.plan ballots w) is b)
  by false a b = ap outcome (a ∙ sym b)

pub search_agrees : (task : SearchTask) (sets : ℕ) → task.budget ≡ Sets sets → Agree Same (search.script task)
search_agrees task sets is = λ bytes. go_on-agrees (told (refused_ballots task.ballots) (ballots_of bytes task.contest)) _ (searched-one task sets is)

-- ---- a trial

module _ (task : TrialTask) (sets : ℕ) (is : task.budget ≡ Sets sets) where
  abbrev contest : BallotFile
  contest = contest_of task

  tried_spent : (v : Verdict) → Tries task v → (outcome v).status ≡ 4 → One (HasSpent (Sets sets) contest) Spent v
  tried_spent v (inl (text, a, i)) four = let e : 0 ≡ 4 = sym (ap (λ v. (outcome v).status) i) ∙ four in absurd (cc e)
  tried_spent v (inr (inl (text, a, i))) four = let e : 3 ≡ 4 = sym (ap (λ v. (outcome v).status) i) ∙ four in absurd (cc e)
  tried_spent v (inr (inr (text, a, i))) four = (text, subst (λ budget. HasSpent budget contest text) is a, i)

  -- if more sets are needed than there are and the start order doesn't decide, the trial runs out of budget
  pub spent_where_more : (winner : ℕ) (won : IsWon contest winner) → 1 ≤ first_bound (candidate_count contest) contest.rankings won.order →
      sets < sets_of contest winner → (v : Verdict) → Tries task v → One (HasSpent (Sets sets) contest) Spent v
  spent_where_more winner won some above v (inl (text, a, i)) =
      let within : sets_of contest a.found.is.winner ≤ sets = subst (IsInBudget contest a.found.is.winner) is a.found.within in
      let same = ap (sets_of contest) (winner-one contest winner a.found.is.winner won a.found.is.won) in
      absurd (omega (arith, above, within, same))
  spent_where_more winner won some above v (inr (inl (text, (tie, a), i))) =
      let told : IsTold (Sets sets) contest = subst (λ budget. IsTold budget contest) is a in
      let bound = ap (first_bound (candidate_count contest) contest.rankings) (same_tabulated contest winner told.winner won told.won) in
      let within = told.within (omega (arith, some, bound)) in
      let same = ap (sets_of contest) (winner-one contest winner told.winner won told.won) in
      absurd (omega (arith, above, within, same))
  spent_where_more winner won some above v (inr (inr (text, a, i))) = (text, subst (λ budget. HasSpent budget contest text) is a, i)

  other_spent : (v w : Verdict) → One (HasSpent (Sets sets) contest) Spent v → Tries task w → outcome v ≡ outcome w
  other_spent v w (text, has, e) tries =
      let some = has.is.some in
      let hard = has.is.hardness in
      let (other, its, j) = spent_where_more has.is.winner has.is.won (omega (arith, some, hard)) has.is.above w tries in
      ap outcome (e ∙ ap (Answered Spent) (spent-one sets contest text other has its) ∙ sym j)

  either_spent : (v w : Verdict) → Tries task v → Tries task w → SameButBudget (outcome v) (outcome w) → outcome v ≡ outcome w
  either_spent v w a b (inl same) = same
  either_spent v w a b (inr (budgeted, other, inl four)) = other_spent v w (tried_spent v a four) b
  either_spent v w a b (inr (budgeted, other, inr four)) = sym (other_spent w v (tried_spent w b four) a)

  pub trial_agrees : Agree Same (trial.script task)
  trial_agrees v w a b = either_spent v w a b (agrees task v w a b)
