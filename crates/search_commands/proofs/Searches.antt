-- A search has one end, unless its budget runs out.
use Rattle.std.proofs.Common.{◌≡◌, ◌↔◌, inl, inr, ℕ, ◌<◌, ◌≤◌, Bool, true, false, List, Option, MatchBool, codes, refl, sym, ap, subst, arith, ◌∙◌}
use Rattle.budget.specs.declared.budget.Budget.{Budget}
use Rattle.budget.specs.declared.budget.Budget.TheVariants.{Nodes, Sets}
use Rattle.assertions.specs.Hardness.{first_bound}
use Rattle.ballots.specs.Ballots.{BallotFile}
use Rattle.ballots.specs.Grammar.{ballots_of}
use Rattle.assertion_file.specs.Content.{Content}
use Rattle.assertion_file.specs.Text.{assertion_file_text}
use Rattle.cli_base.specs.Due.{IsOrMemory, IsOneOrMemory}
use Rattle.cli_base.specs.Outcome.{Outcome, Verdict, Answered, One, outcome, file_refusal, broken_at}
use Rattle.cli_base.specs.declared.outcome.RefusalKind.TheVariants.{Input}
use Rattle.cli_base.specs.Script.{Agree, AreOfKind, IsOfKind, SameButBudget}
use Rattle.cli_base.specs.declared.outcome.AnswerKind.{AnswerKind}
use Rattle.cli_base.specs.declared.outcome.AnswerKind.TheVariants.{Done, Tie, Spent, FullCount}
use Rattle.cli_base.proofs.Ended.{one-same, of_answers, one-kind, refused-kind}
use Rattle.command.specs.declared.plan_terms.PlanTerms.{PlanTerms}
use Rattle.command.specs.declared.search.SearchTask.{SearchTask}
use Rattle.input_files.specs.Judged.{told}
use Rattle.input_files.specs.Refusals.{refused_ballots}
use Rattle.input_files.proofs.Going.{go_on-kinds, told-only}
use Rattle.contest_search.specs.Budget.{certificate_nodes, sets_of, IsInBudget}
use Rattle.contest_search.specs.Contest.{candidate_count, IsWon, IsElected, IsOther}
use Rattle.contest_search.proofs.Certificates.{certificate-one}
use Rattle.contest_search.proofs.Contests.{same_tabulated, winner-one}
use Rattle.search_commands.specs.Ends.{HasTieIn, HasSpent}
use Rattle.search_commands.specs.Search.{full_count_text, has_cards, more_ballots, printed, HasCertificate, HasFullCount, Finds, Searches, kinds, script}
use Rattle.search_commands.proofs.Going.{go_on-agrees}
use Rattle.search_commands.proofs.Ties.{tie-one, never_both}

-- ---- one end

done-full : (budget : Budget) (least : ℕ) (plan : Option PlanTerms) (ballots : BallotFile) (text other : List ℕ) → HasCertificate budget least plan ballots text →
    HasFullCount budget least ballots other → ⊥
done-full budget least plan ballots text other a b =
    let same = ap (λ (f : Content). f.margin) (certificate-one ballots a.file b.file a.is b.is) in
    omega (arith, same, a.floor, b.floor)

done-one : (budget : Budget) (least : ℕ) (plan : Option PlanTerms) (ballots : BallotFile) (text other : List ℕ) → HasCertificate budget least plan ballots text →
    HasCertificate budget least plan ballots other → text ≡ other
done-one budget least plan ballots text other a b = a.shown ∙ ap (λ f. assertion_file_text (printed plan f)) (certificate-one ballots a.file b.file a.is b.is) ∙ sym b.shown

full-one : (budget : Budget) (least : ℕ) (ballots : BallotFile) (text other : List ℕ) → HasFullCount budget least ballots text →
    HasFullCount budget least ballots other → text ≡ other
full-one budget least ballots text other a b = a.shown ∙ ap (λ f. full_count_text f least) (certificate-one ballots a.file b.file a.is b.is) ∙ sym b.shown

found-one : (budget : Budget) (least : ℕ) (plan : Option PlanTerms) (ballots : BallotFile) (v w : Verdict) → Finds budget least plan ballots v → Finds budget least plan ballots w →
    SameButBudget (outcome v) (outcome w)
found-one budget least plan ballots v w (inl a) (inl b) = inl (ap outcome (one-same (HasCertificate budget least plan ballots) Done (done-one budget least plan ballots) v w a b))
found-one budget least plan ballots v w (inl (text, a, i)) (inr (inl (other, b, j))) = absurd (never_both ballots a.is.winner other a.is.decided b.0)
found-one budget least plan ballots v w (inl (text, a, i)) (inr (inr (inl (other, b, j)))) =
    of_answers Done Spent text other v w i j (inr (inl refl, inr (inr (inl refl)), inr refl))
found-one budget least plan ballots v w (inl (text, a, i)) (inr (inr (inr (other, b, j)))) = absurd (done-full budget least plan ballots text other a b)
found-one budget least plan ballots v w (inr (inl (text, a, i))) (inl (other, b, j)) = absurd (never_both ballots b.is.winner text b.is.decided a.0)
found-one budget least plan ballots v w (inr (inl a)) (inr (inl b)) = inl (ap outcome (one-same (HasTieIn budget ballots) Tie (λ t o x y. tie-one ballots t o x.0 y.0) v w a b))
found-one budget least plan ballots v w (inr (inl (text, a, i))) (inr (inr (inl (other, b, j)))) =
    of_answers Tie Spent text other v w i j (inr (inr (inl refl), inr (inr (inl refl)), inr refl))
found-one budget least plan ballots v w (inr (inl (text, a, i))) (inr (inr (inr (other, b, j)))) = absurd (never_both ballots b.is.winner text b.is.decided a.0)
found-one budget least plan ballots v w (inr (inr (inl (text, a, i)))) (inl (other, b, j)) =
    of_answers Spent Done text other v w i j (inr (inr (inr (inl refl)), inl refl, inl refl))
found-one budget least plan ballots v w (inr (inr (inl (text, a, i)))) (inr (inl (other, b, j))) =
    of_answers Spent Tie text other v w i j (inr (inr (inr (inl refl)), inr (inl refl), inl refl))
found-one budget least plan ballots v w (inr (inr (inl (text, a, i)))) (inr (inr (inl (other, b, j)))) =
    of_answers Spent Spent text other v w i j (inr (inr (inr (inl refl)), inr (inr (inl refl)), inl refl))
found-one budget least plan ballots v w (inr (inr (inl (text, a, i)))) (inr (inr (inr (other, b, j)))) =
    of_answers Spent FullCount text other v w i j (inr (inr (inr (inl refl)), inr (inr (inr refl)), inl refl))
found-one budget least plan ballots v w (inr (inr (inr (text, a, i)))) (inl (other, b, j)) = absurd (done-full budget least plan ballots other text b a)
found-one budget least plan ballots v w (inr (inr (inr (text, a, i)))) (inr (inl (other, b, j))) = absurd (never_both ballots a.is.winner other a.is.decided b.0)
found-one budget least plan ballots v w (inr (inr (inr (text, a, i)))) (inr (inr (inl (other, b, j)))) =
    of_answers FullCount Spent text other v w i j (inr (inr (inr (inr refl)), inr (inr (inl refl)), inr refl))
found-one budget least plan ballots v w (inr (inr (inr a))) (inr (inr (inr b))) =
    inl (ap outcome (one-same (HasFullCount budget least ballots) FullCount (full-one budget least ballots) v w a b))

searched-one : (task : SearchTask) (ballots : BallotFile) (v w : Verdict) → Searches task ballots v → Searches task ballots w →
    SameButBudget (outcome v) (outcome w)
searched-one task ballots v w = by (has_cards task.plan ballots) where
  by : (b : Bool) → MatchBool b (Finds task.budget task.floor task.plan ballots v) (v ≡ more_ballots task.ballots) →
      MatchBool b (Finds task.budget task.floor task.plan ballots w) (w ≡ more_ballots task.ballots) → SameButBudget (outcome v) (outcome w)
  by true a b = found-one task.budget task.floor task.plan ballots v w a b
  by false a b = inl (ap outcome (a ∙ sym b))

pub agrees : (task : SearchTask) → Agree SameButBudget (script task)
agrees task = λ bytes. go_on-agrees (told (refused_ballots task.ballots) (ballots_of bytes task.contest)) _ (searched-one task)

found-kind : (budget : Budget) (least : ℕ) (plan : Option PlanTerms) (ballots : BallotFile) (v : Verdict) → Finds budget least plan ballots v → IsOfKind kinds v
found-kind budget least plan ballots v (inl a) = one-kind kinds (HasCertificate budget least plan ballots) Done refl v a
found-kind budget least plan ballots v (inr (inl a)) = one-kind kinds (HasTieIn budget ballots) Tie refl v a
found-kind budget least plan ballots v (inr (inr (inl a))) = one-kind kinds (HasSpent budget ballots) Spent refl v a
found-kind budget least plan ballots v (inr (inr (inr a))) = one-kind kinds (HasFullCount budget least ballots) FullCount refl v a

searched-kind : (task : SearchTask) (ballots : BallotFile) (v : Verdict) → Searches task ballots v → IsOfKind kinds v
searched-kind task ballots v = by (has_cards task.plan ballots) where
  by : (b : Bool) → MatchBool b (Finds task.budget task.floor task.plan ballots v) (v ≡ more_ballots task.ballots) → IsOfKind kinds v
  by true a = found-kind task.budget task.floor task.plan ballots v a
  by false a = refused-kind kinds v task.ballots _ a

pub kinds_are : (task : SearchTask) → AreOfKind kinds (script task)
kinds_are task = λ bytes. go_on-kinds kinds (told (refused_ballots task.ballots) (ballots_of bytes task.contest)) _
    (told-only (refused_ballots task.ballots) (ballots_of bytes task.contest) (λ why. tt)) (searched-kind task)

-- ---- a count of the certificate above the nodes

over-budget : (ballots : BallotFile) (winner other c nodes : ℕ) → IsWon ballots winner → IsWon ballots other → IsOther ballots winner c →
    nodes < certificate_nodes ballots winner c → IsInBudget ballots other (Nodes nodes) → ⊥
over-budget ballots winner other c nodes won its is above budget =
    let w = winner-one ballots winner other won its in
    let within : certificate_nodes ballots other c ≤ nodes = budget c (subst (λ v. IsOther ballots v c) w is) in
    let same : certificate_nodes ballots winner c ≡ certificate_nodes ballots other c = ap (λ v. certificate_nodes ballots v c) w in
    omega (arith, above, within, same)

pub spent_where_above : (nodes least : ℕ) (plan : Option PlanTerms) (ballots : BallotFile) (winner c : ℕ) (v : Verdict) → IsWon ballots winner → IsElected ballots winner →
    IsOther ballots winner c →
    nodes < certificate_nodes ballots winner c → Finds (Nodes nodes) least plan ballots v → One (HasSpent (Nodes nodes) ballots) Spent v
spent_where_above nodes least plan ballots winner c v won elected other above (inl (text, has, e)) =
    absurd (over-budget ballots winner has.is.winner c nodes won has.is.won other above has.within)
spent_where_above nodes least plan ballots winner c v won elected other above (inr (inl (text, tie, e))) = absurd (never_both ballots winner text elected tie.0)
spent_where_above nodes least plan ballots winner c v won elected other above (inr (inr (inl has))) = has
spent_where_above nodes least plan ballots winner c v won elected other above (inr (inr (inr (text, has, e)))) =
    absurd (over-budget ballots winner has.is.winner c nodes won has.is.won other above has.within)

-- ---- by sets

module _ (sets least : ℕ) (plan : Option PlanTerms) (ballots : BallotFile) (winner : ℕ) (won : IsWon ballots winner) where
  abbrev bound_of : (w : ℕ) → IsWon ballots w → ℕ
  bound_of w its = first_bound (candidate_count ballots) ballots.rankings its.order

  bound-same : (w : ℕ) (its : IsWon ballots w) → bound_of winner won ≡ bound_of w its
  bound-same w its = ap (first_bound (candidate_count ballots) ballots.rankings) (same_tabulated ballots winner w won its)

  sets-same : (w : ℕ) → IsWon ballots w → sets_of ballots winner ≡ sets_of ballots w
  sets-same w its = ap (sets_of ballots) (winner-one ballots winner w won its)

  pub spent_by_sets_exactly : (v : Verdict) → Finds (Sets sets) least plan ballots v →
      (One (HasSpent (Sets sets) ballots) Spent v ↔ ((1 ≤ bound_of winner won) × (sets < sets_of ballots winner)))
  spent_by_sets_exactly v found = (
    λ (text, has, e).
        let is = has.is in
        let bound = bound-same is.winner is.won in
        let same = sets-same is.winner is.won in
        let some = is.some in
        let hard = is.hardness in
        let above = is.above in
        (omega (arith, some, hard, bound), omega (arith, above, same)),
    λ (some, above). by found some above,
  ) where
    by : Finds (Sets sets) least plan ballots v → 1 ≤ bound_of winner won → sets < sets_of ballots winner → One (HasSpent (Sets sets) ballots) Spent v
    by (inl (text, has, e)) some above =
        let same = sets-same has.is.winner has.is.won in let within = has.within in absurd (omega (arith, above, within, same))
    by (inr (inl (text, (tie, told), e))) some above =
        let same = sets-same told.winner told.won in
        let bound = bound-same told.winner told.won in
        let within = told.within (omega (arith, some, bound)) in
        absurd (omega (arith, above, within, same))
    by (inr (inr (inl has))) some above = has
    by (inr (inr (inr (text, has, e)))) some above =
        let same = sets-same has.is.winner has.is.won in let within = has.within in absurd (omega (arith, above, within, same))

-- ---- what a search ends with, if each ballot has a card

-- there is an answer only in that case, and then it is of what is found
pub found_by : (task : SearchTask) (ballots : BallotFile) (kind : AnswerKind) (text : List ℕ) → Searches task ballots (Answered kind text) →
    (has_cards task.plan ballots ≡ true) × Finds task.budget task.floor task.plan ballots (Answered kind text)
found_by task ballots kind text = by (has_cards task.plan ballots) where
  by : (b : Bool) → MatchBool b (Finds task.budget task.floor task.plan ballots (Answered kind text)) (Answered kind text ≡ more_ballots task.ballots) →
      (b ≡ true) × Finds task.budget task.floor task.plan ballots (Answered kind text)
  by true found = (refl, found)
  by false refused = absurd (cc refused)

-- the search ends with what is found there
pub searched_with : (task : SearchTask) (ballots : BallotFile) (v : Verdict) → has_cards task.plan ballots ≡ true →
    Finds task.budget task.floor task.plan ballots v → Searches task ballots v
searched_with task ballots v has found =
    subst (λ b. MatchBool b (Finds task.budget task.floor task.plan ballots v) (v ≡ more_ballots task.ballots)) (sym has) found

pub searched_or_memory : (task : SearchTask) (ballots : BallotFile) (due : Outcome) → has_cards task.plan ballots ≡ true →
    IsOneOrMemory (Finds task.budget task.floor task.plan ballots) due → IsOneOrMemory (Searches task ballots) due
searched_or_memory task ballots due has (inl (v, found, is)) = inl (v, searched_with task ballots v has found, is)
searched_or_memory task ballots due has (inr memory) = inr memory

-- without a card for each ballot, the ballots are refused
pub refused_or_memory : (task : SearchTask) (ballots : BallotFile) (name : List ℕ) (due : Outcome) → has_cards task.plan ballots ≡ false → name ≡ task.ballots →
    IsOrMemory (file_refusal Input name (broken_at (codes "B11") 0)) due → IsOneOrMemory (Searches task ballots) due
refused_or_memory task ballots name due few named (inl is) =
    let refused : Verdict = more_ballots task.ballots in
    inl (
      refused,
      subst (λ b. MatchBool b (Finds task.budget task.floor task.plan ballots refused) (refused ≡ refused)) (sym few) refl,
      is ∙ ap (λ name. file_refusal Input name (broken_at (codes "B11") 0)) named,
    )
refused_or_memory task ballots name due few named (inr memory) = inr memory

-- ---- the texts of a kind

module _ (budget : Budget) (least : ℕ) (plan : Option PlanTerms) (ballots : BallotFile) (text : List ℕ) where
  pub done_is : Finds budget least plan ballots (Answered Done text) → HasCertificate budget least plan ballots text
  done_is (inl (other, has, e)) = let same : other ≡ text = cc in subst (HasCertificate budget least plan ballots) same has
  done_is (inr (inl (other, has, e))) = absurd (cc e)
  done_is (inr (inr (inl (other, has, e)))) = absurd (cc e)
  done_is (inr (inr (inr (other, has, e)))) = absurd (cc e)

  pub spent_is : Finds budget least plan ballots (Answered Spent text) → HasSpent budget ballots text
  spent_is (inl (other, has, e)) = absurd (cc e)
  spent_is (inr (inl (other, has, e))) = absurd (cc e)
  spent_is (inr (inr (inl (other, has, e)))) = let same : other ≡ text = cc in subst (HasSpent budget ballots) same has
  spent_is (inr (inr (inr (other, has, e)))) = absurd (cc e)

  pub full_count_is : Finds budget least plan ballots (Answered FullCount text) → HasFullCount budget least ballots text
  full_count_is (inl (other, has, e)) = absurd (cc e)
  full_count_is (inr (inl (other, has, e))) = absurd (cc e)
  full_count_is (inr (inr (inl (other, has, e)))) = absurd (cc e)
  full_count_is (inr (inr (inr (other, has, e)))) = let same : other ≡ text = cc in subst (HasFullCount budget least ballots) same has
