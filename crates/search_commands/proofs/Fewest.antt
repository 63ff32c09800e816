-- A search for the fewest NENs ends with one status, and what it ends with for each kind.
use Rattle.std.proofs.Common.{◌≡◌, inl, inr, ℕ, ◌<◌, Bool, true, false, List, Option, MatchBool, codes, refl, sym, ap, subst, arith, ◌∙◌}
use Rattle.ballots.specs.Ballots.{BallotFile}
use Rattle.ballots.specs.Grammar.{ballots_of}
use Rattle.assertion_file.specs.Content.{Content}
use Rattle.budget.specs.declared.budget.Budget.TheVariants.{Sets}
use Rattle.cli_base.specs.Due.{IsOrMemory, IsOneOrMemory}
use Rattle.cli_base.specs.Outcome.{Outcome, Verdict, Answered, outcome, file_refusal, broken_at}
use Rattle.cli_base.specs.declared.outcome.RefusalKind.TheVariants.{Input}
use Rattle.cli_base.specs.Script.{Agree, AreOfKind, IsOfKind, SameStatus}
use Rattle.cli_base.specs.declared.outcome.AnswerKind.{AnswerKind}
use Rattle.cli_base.specs.declared.outcome.AnswerKind.TheVariants.{Done, Tie, Spent, FullCount}
use Rattle.cli_base.proofs.Ended.{one-kind, refused-kind}
use Rattle.command.specs.declared.plan_terms.PlanTerms.{PlanTerms}
use Rattle.command.specs.declared.search_fewest.SearchFewestTask.{SearchFewestTask}
use Rattle.input_files.specs.Judged.{told}
use Rattle.input_files.specs.Refusals.{refused_ballots}
use Rattle.input_files.proofs.Going.{go_on-kinds, told-only}
use Rattle.contest_search.specs.Contest.{candidate_count}
use Rattle.contest_search.specs.Fewest.{IsFewestFoundIn}
use Rattle.contest_search.proofs.FewestNeeded.{margin-same, never_both_ends, never_told}
use Rattle.contest_search.proofs.ReadBallots.{ballots_fit}
use Rattle.search_commands.specs.Ends.{HasTieIn}
use Rattle.search_commands.specs.Search.{has_cards, more_ballots}
use Rattle.search_commands.specs.SearchFewest.{Finds, HasFewest, HasFullCount, HasSpent, Searches, kinds, script}
use Rattle.search_commands.proofs.Going.{go_on-agrees_of}
use Rattle.search_commands.proofs.Ties.{never_both}

-- ---- a budget that is enough doesn't run out

module _ (ballots : BallotFile) (sets : ℕ) (text : List ℕ) (spent : HasSpent sets ballots text) where
  pub not_found : (gap : ℕ) (file : Content) → IsFewestFoundIn sets gap ballots file → ⊥
  not_found gap file found = never_both_ends ballots sets spent.order spent.margin gap file found spent.is

  pub not_told : (other : List ℕ) → 1 < candidate_count ballots → HasTieIn (Sets sets) ballots other → ⊥
  not_told other two (tie, told) = never_told ballots sets spent.order spent.margin two tie.is.undecided told spent.is

-- ---- one status

same_kind : (kind : AnswerKind) (text other : List ℕ) (v w : Verdict) → v ≡ Answered kind text → w ≡ Answered kind other → SameStatus (outcome v) (outcome w)
same_kind kind text other v w i j = ap (λ v. (outcome v).status) i ∙ sym (ap (λ w. (outcome w).status) j)

module _ (sets gap least : ℕ) (plan : Option PlanTerms) (ballots : BallotFile) (two : 1 < candidate_count ballots) where
  done-full : (text other : List ℕ) → HasFewest sets gap least plan ballots text → HasFullCount sets gap least ballots other → ⊥
  done-full text other a b =
      let same = margin-same ballots sets gap a.file b.file a.is b.is in
      let reached = a.floor in
      let below = b.floor in
      omega (arith, same, reached, below)

  found-one : (v w : Verdict) → Finds sets gap least plan ballots v → Finds sets gap least plan ballots w → SameStatus (outcome v) (outcome w)
  found-one v w (inl (text, a, i)) (inl (other, b, j)) = same_kind Done text other v w i j
  found-one v w (inl (text, a, i)) (inr (inl (other, b, j))) = absurd (never_both ballots a.is.winner other a.is.decided b.0)
  found-one v w (inl (text, a, i)) (inr (inr (inl (other, b, j)))) = absurd (not_found ballots sets other b gap a.file a.is)
  found-one v w (inl (text, a, i)) (inr (inr (inr (other, b, j)))) = absurd (done-full text other a b)
  found-one v w (inr (inl (text, a, i))) (inl (other, b, j)) = absurd (never_both ballots b.is.winner text b.is.decided a.0)
  found-one v w (inr (inl (text, a, i))) (inr (inl (other, b, j))) = same_kind Tie text other v w i j
  found-one v w (inr (inl (text, a, i))) (inr (inr (inl (other, b, j)))) = absurd (not_told ballots sets other b text two a)
  found-one v w (inr (inl (text, a, i))) (inr (inr (inr (other, b, j)))) = absurd (never_both ballots b.is.winner text b.is.decided a.0)
  found-one v w (inr (inr (inl (text, a, i)))) (inl (other, b, j)) = absurd (not_found ballots sets text a gap b.file b.is)
  found-one v w (inr (inr (inl (text, a, i)))) (inr (inl (other, b, j))) = absurd (not_told ballots sets text a other two b)
  found-one v w (inr (inr (inl (text, a, i)))) (inr (inr (inl (other, b, j)))) = same_kind Spent text other v w i j
  found-one v w (inr (inr (inl (text, a, i)))) (inr (inr (inr (other, b, j)))) = absurd (not_found ballots sets text a gap b.file b.is)
  found-one v w (inr (inr (inr (text, a, i)))) (inl (other, b, j)) = absurd (done-full other text b a)
  found-one v w (inr (inr (inr (text, a, i)))) (inr (inl (other, b, j))) = absurd (never_both ballots a.is.winner other a.is.decided b.0)
  found-one v w (inr (inr (inr (text, a, i)))) (inr (inr (inl (other, b, j)))) = absurd (not_found ballots sets other b gap a.file a.is)
  found-one v w (inr (inr (inr (text, a, i)))) (inr (inr (inr (other, b, j)))) = same_kind FullCount text other v w i j

searched-one : (task : SearchFewestTask) (ballots : BallotFile) → 1 < candidate_count ballots → (v w : Verdict) → Searches task ballots v → Searches task ballots w →
    SameStatus (outcome v) (outcome w)
searched-one task ballots two v w = by (has_cards task.plan ballots) where
  by : (b : Bool) → MatchBool b (Finds task.sets task.gap task.floor task.plan ballots v) (v ≡ more_ballots task.ballots) →
      MatchBool b (Finds task.sets task.gap task.floor task.plan ballots w) (w ≡ more_ballots task.ballots) → SameStatus (outcome v) (outcome w)
  by true a b = found-one task.sets task.gap task.floor task.plan ballots two v w a b
  by false a b = ap (λ v. (outcome v).status) (a ∙ sym b)

pub agrees : (task : SearchFewestTask) → Agree SameStatus (script task)
agrees task = λ bytes. go_on-agrees_of (refused_ballots task.ballots) (ballots_of bytes task.contest) _
    (λ ballots is. searched-one task ballots (ballots_fit bytes task.contest ballots is).fewest)

-- ---- the kinds of its answers

found-kind : (sets gap least : ℕ) (plan : Option PlanTerms) (ballots : BallotFile) (v : Verdict) → Finds sets gap least plan ballots v → IsOfKind kinds v
found-kind sets gap least plan ballots v (inl a) = one-kind kinds (HasFewest sets gap least plan ballots) Done refl v a
found-kind sets gap least plan ballots v (inr (inl a)) = one-kind kinds (HasTieIn (Sets sets) ballots) Tie refl v a
found-kind sets gap least plan ballots v (inr (inr (inl a))) = one-kind kinds (HasSpent sets ballots) Spent refl v a
found-kind sets gap least plan ballots v (inr (inr (inr a))) = one-kind kinds (HasFullCount sets gap least ballots) FullCount refl v a

searched-kind : (task : SearchFewestTask) (ballots : BallotFile) (v : Verdict) → Searches task ballots v → IsOfKind kinds v
searched-kind task ballots v = by (has_cards task.plan ballots) where
  by : (b : Bool) → MatchBool b (Finds task.sets task.gap task.floor task.plan ballots v) (v ≡ more_ballots task.ballots) → IsOfKind kinds v
  by true a = found-kind task.sets task.gap task.floor task.plan ballots v a
  by false a = refused-kind kinds v task.ballots _ a

pub kinds_are : (task : SearchFewestTask) → AreOfKind kinds (script task)
kinds_are task = λ bytes. go_on-kinds kinds (told (refused_ballots task.ballots) (ballots_of bytes task.contest)) _
    (told-only (refused_ballots task.ballots) (ballots_of bytes task.contest) (λ why. tt)) (searched-kind task)

-- ---- a card for each ballot

-- what an answer says is found
pub found_by : (task : SearchFewestTask) (ballots : BallotFile) (kind : AnswerKind) (text : List ℕ) → Searches task ballots (Answered kind text) →
    (has_cards task.plan ballots ≡ true) × Finds task.sets task.gap task.floor task.plan ballots (Answered kind text)
found_by task ballots kind text = by (has_cards task.plan ballots) where
  by : (b : Bool) → MatchBool b (Finds task.sets task.gap task.floor task.plan ballots (Answered kind text)) (Answered kind text ≡ more_ballots task.ballots) →
      (b ≡ true) × Finds task.sets task.gap task.floor task.plan ballots (Answered kind text)
  by true found = (refl, found)
  by false few = absurd (cc few)

-- the search ends with what is found there
pub searched_with : (task : SearchFewestTask) (ballots : BallotFile) (v : Verdict) → has_cards task.plan ballots ≡ true →
    Finds task.sets task.gap task.floor task.plan ballots v → Searches task ballots v
searched_with task ballots v has found =
    subst (λ b. MatchBool b (Finds task.sets task.gap task.floor task.plan ballots v) (v ≡ more_ballots task.ballots)) (sym has) found

-- what the search ends with there is found
pub searched_finds : (task : SearchFewestTask) (ballots : BallotFile) (v : Verdict) → has_cards task.plan ballots ≡ true → Searches task ballots v →
    Finds task.sets task.gap task.floor task.plan ballots v
searched_finds task ballots v has found =
    subst (λ b. MatchBool b (Finds task.sets task.gap task.floor task.plan ballots v) (v ≡ more_ballots task.ballots)) has found

pub searched_or_memory : (task : SearchFewestTask) (ballots : BallotFile) (due : Outcome) → has_cards task.plan ballots ≡ true →
    IsOneOrMemory (Finds task.sets task.gap task.floor task.plan ballots) due → IsOneOrMemory (Searches task ballots) due
searched_or_memory task ballots due has (inl (v, found, is)) = inl (v, searched_with task ballots v has found, is)
searched_or_memory task ballots due has (inr memory) = inr memory

-- without a card for each ballot, the ballots are refused
pub refused_or_memory : (task : SearchFewestTask) (ballots : BallotFile) (name : List ℕ) (due : Outcome) → has_cards task.plan ballots ≡ false → name ≡ task.ballots →
    IsOrMemory (file_refusal Input name (broken_at (codes "B11") 0)) due → IsOneOrMemory (Searches task ballots) due
refused_or_memory task ballots name due few named (inl is) =
    let refused : Verdict = more_ballots task.ballots in
    inl (
      refused,
      subst (λ b. MatchBool b (Finds task.sets task.gap task.floor task.plan ballots refused) (refused ≡ refused)) (sym few) refl,
      is ∙ ap (λ name. file_refusal Input name (broken_at (codes "B11") 0)) named,
    )
refused_or_memory task ballots name due few named (inr memory) = inr memory

-- ---- the texts of a kind

module _ (sets gap least : ℕ) (plan : Option PlanTerms) (ballots : BallotFile) (text : List ℕ) where
  pub done_is : Finds sets gap least plan ballots (Answered Done text) → HasFewest sets gap least plan ballots text
  done_is (inl (other, has, e)) = let same : other ≡ text = cc in subst (HasFewest sets gap least plan ballots) same has
  done_is (inr (inl (other, has, e))) = absurd (cc e)
  done_is (inr (inr (inl (other, has, e)))) = absurd (cc e)
  done_is (inr (inr (inr (other, has, e)))) = absurd (cc e)

  pub tie_is : Finds sets gap least plan ballots (Answered Tie text) → HasTieIn (Sets sets) ballots text
  tie_is (inl (other, has, e)) = absurd (cc e)
  tie_is (inr (inl (other, has, e))) = let same : other ≡ text = cc in subst (HasTieIn (Sets sets) ballots) same has
  tie_is (inr (inr (inl (other, has, e)))) = absurd (cc e)
  tie_is (inr (inr (inr (other, has, e)))) = absurd (cc e)

  pub spent_is : Finds sets gap least plan ballots (Answered Spent text) → HasSpent sets ballots text
  spent_is (inl (other, has, e)) = absurd (cc e)
  spent_is (inr (inl (other, has, e))) = absurd (cc e)
  spent_is (inr (inr (inl (other, has, e)))) = let same : other ≡ text = cc in subst (HasSpent sets ballots) same has
  spent_is (inr (inr (inr (other, has, e)))) = absurd (cc e)

  pub full_count_is : Finds sets gap least plan ballots (Answered FullCount text) → HasFullCount sets gap least ballots text
  full_count_is (inl (other, has, e)) = absurd (cc e)
  full_count_is (inr (inl (other, has, e))) = absurd (cc e)
  full_count_is (inr (inr (inl (other, has, e)))) = absurd (cc e)
  full_count_is (inr (inr (inr (other, has, e)))) = let same : other ≡ text = cc in subst (HasFullCount sets gap least ballots) same has
