-- A trim has one end, which is that of a check if the file isn't accepted.
use Rattle.std.proofs.Common.{◌≡◌, ◌≢◌, inl, inr, ℕ, ◌+◌, ◌<◌, List, [], ◌∷◌, ◌++◌, length, map, Option, None, Some, Result, Ok, Err, refl, sym, ap, subst, arith, ◌∙◌}
use Rattle.assertions.specs.declared.assertion.Claim.{Claim}
use Rattle.budget.specs.declared.budget.Budget.{Budget}
use Rattle.ballots.specs.Ballots.{BallotFile}
use Rattle.ballots.specs.Grammar.{ballots_of}
use Rattle.assertion_file.specs.Content.{Content, candidate_count}
use Rattle.assertion_file.specs.Reading.{assertion_file_of}
use Rattle.cover_checker.specs.Checks.{IsAnswer}
use Rattle.cover_checker.specs.Findings.{Answer}
use Rattle.cover_checker.specs.declared.checked.Checked.TheVariants.{OtherContest, OtherWinner, OtherMargin, Stands, NotLeast, NotAlternative, Harder, OtherDraws, Accepted}
use Rattle.cover_checker.specs.declared.checked.CheckFault.TheVariants.{Spent as CheckSpent, SpentSets as CheckSpentSets, Memory as CheckMemory}
use Rattle.cover_checker.specs.declared.cover.Verdict.{Verdict as CoverVerdict}
use Rattle.cover_checker.specs.declared.cover.Verdict.TheVariants.{Covered, Stands as OrderStands}
use Rattle.cover_checker.specs.declared.cover.CoverFault.{CoverFault}
use Rattle.cover_checker.specs.declared.cover.CoverFault.TheVariants.{Spent as CoverSpent, SpentSets as CoverSpentSets, Memory as CoverMemory}
use Rattle.cover_checker.proofs.Named.{fault-below}
use Rattle.cover_checker.proofs.OneAnswer.{answer_is_one}
use Rattle.trimmer.specs.Trimmed.{can_go, unless_it_goes, covered_by, tried, left_of, plan_left, with_claims, trimmed}
use Rattle.trimmer.specs.declared.fault.TrimFault.{TrimFault}
use Rattle.trimmer.specs.declared.fault.TrimFault.TheVariants.{Spent as TrimSpent, SpentSets as TrimSpentSets, Memory as TrimMemory}
use Rattle.cli_base.specs.Outcome.{Outcome, Verdict, Answered, outcome, out_of_memory, status_of}
use Rattle.cli_base.specs.Due.{IsOneOrMemory}
use Rattle.cli_base.specs.Script.{Agree, AreOfKind, IsOfKind, Same}
use Rattle.cli_base.specs.declared.outcome.AnswerKind.{AnswerKind}
use Rattle.cli_base.specs.declared.outcome.AnswerKind.TheVariants.{Done, Spent, Differs}
use Rattle.cli_base.proofs.AmongKinds.{among}
use Rattle.cli_base.proofs.Scripts.{some_is}
use Rattle.cli_base.proofs.Statuses.{same_kind}
use Rattle.command.specs.declared.trim.TrimTask.{TrimTask}
use Rattle.input_files.specs.Judged.{told}
use Rattle.input_files.specs.Refusals.{refused_assertions, refused_ballots}
use Rattle.input_files.proofs.Going.{go_on-agrees, go_on-kinds, told-only}
use Rattle.check_command.specs.Check.{Checks, verdict_on as check_verdict, yes_text}
use Rattle.check_command.proofs.Checks.{answer-kind}
use Rattle.trim_command.specs.Trim.{Trims, trim_verdict, verdict_on, after_ballots, kinds, script}

-- ---- one end

pub trims-one : (budget : Budget) (ballots : BallotFile) (file : Content) (v w : Verdict) → Trims budget ballots file v → Trims budget ballots file w → v ≡ w
trims-one budget ballots file v w (answer, is, told) (other, is', told') =
    some_is (sym told ∙ ap (verdict_on budget file) (answer_is_one budget ballots file answer other is is') ∙ told')

ballots-agree : (assertions : List ℕ) (budget : Budget) (ballots : BallotFile) → Agree Same (after_ballots assertions budget ballots)
ballots-agree assertions budget ballots = λ bytes. go_on-agrees (told (refused_assertions assertions) (assertion_file_of bytes)) _
    (λ file v w p q. ap outcome (trims-one budget ballots file v w p q))

pub agrees : (task : TrimTask) → Agree Same (script task)
agrees task = λ bytes. go_on-agrees (told (refused_ballots task.ballots) (ballots_of bytes task.contest)) _
    (λ ballots. ballots-agree task.assertions task.budget ballots)

-- ---- the kinds of its answers

trim-kind : (file : Content) (r : Result Content TrimFault) (v : Verdict) → trim_verdict file r ≡ Some v → IsOfKind kinds v
trim-kind file (Ok left) v told = subst (IsOfKind kinds) (some_is told) (among kinds Done refl)
trim-kind file (Err (TrimSpent claim last)) v told = subst (IsOfKind kinds) (some_is told) (among kinds Spent refl)
trim-kind file (Err (TrimSpentSets claim sets)) v told = subst (IsOfKind kinds) (some_is told) (among kinds Spent refl)
trim-kind file (Err TrimMemory) v told = absurd (cc told)

trims-kind : (budget : Budget) (ballots : BallotFile) (file : Content) (v : Verdict) → Trims budget ballots file v → IsOfKind kinds v
trims-kind budget ballots file v (Ok Accepted, is, told) = trim-kind file (trimmed budget file) v told
trims-kind budget ballots file v (Ok OtherContest, is, told) = answer-kind file (Ok OtherContest) v told
trims-kind budget ballots file v (Ok (OtherWinner c), is, told) = answer-kind file (Ok (OtherWinner c)) v told
trims-kind budget ballots file v (Ok (OtherMargin at found), is, told) = answer-kind file (Ok (OtherMargin at found)) v told
trims-kind budget ballots file v (Ok (Stands order), is, told) = answer-kind file (Ok (Stands order)) v told
trims-kind budget ballots file v (Ok (NotLeast found), is, told) = answer-kind file (Ok (NotLeast found)) v told
trims-kind budget ballots file v (Ok NotAlternative, is, told) = answer-kind file (Ok NotAlternative) v told
trims-kind budget ballots file v (Ok (Harder a margin), is, told) = answer-kind file (Ok (Harder a margin)) v told
trims-kind budget ballots file v (Ok (OtherDraws at found), is, told) = answer-kind file (Ok (OtherDraws at found)) v told
trims-kind budget ballots file v (Err (CheckSpent last), is, told) = answer-kind file (Err (CheckSpent last)) v told
trims-kind budget ballots file v (Err (CheckSpentSets sets), is, told) = answer-kind file (Err (CheckSpentSets sets)) v told
trims-kind budget ballots file v (Err CheckMemory, is, told) = answer-kind file (Err CheckMemory) v told

ballots-kinds : (assertions : List ℕ) (budget : Budget) (ballots : BallotFile) → AreOfKind kinds (after_ballots assertions budget ballots)
ballots-kinds assertions budget ballots = λ bytes. go_on-kinds kinds (told (refused_assertions assertions) (assertion_file_of bytes)) _
    (told-only (refused_assertions assertions) (assertion_file_of bytes) (λ why. tt)) (λ file. trims-kind budget ballots file)

pub kinds_are : (task : TrimTask) → AreOfKind kinds (script task)
kinds_are task = λ bytes. go_on-kinds kinds (told (refused_ballots task.ballots) (ballots_of bytes task.contest)) _
    (told-only (refused_ballots task.ballots) (ballots_of bytes task.contest) (λ why. tt)) (λ ballots. ballots-kinds task.assertions task.budget ballots)

-- ---- how a check ended

-- the status of a verdict
abbrev status : Verdict → ℕ
status verdict = (outcome verdict).status

-- the status is yes exactly if the checker accepts the file
pub done-accepted : (budget : Budget) (ballots : BallotFile) (file : Content) (verdict : Verdict) → Checks budget ballots file verdict → status verdict ≡ 0 →
    IsAnswer budget ballots file (Ok Accepted)
done-accepted budget ballots file verdict (answer, is, told) zero' = go answer is told where
  other : (v : Verdict) → Some v ≡ Some verdict → status v ≡ 0
  other v e = ap status (some_is e) ∙ zero'

  go : (answer : Answer) → IsAnswer budget ballots file answer → check_verdict file answer ≡ Some verdict → IsAnswer budget ballots file (Ok Accepted)
  go (Ok Accepted) is told = is
  go (Ok OtherContest) is told = absurd (cc (other _ told))
  go (Ok (OtherWinner c)) is told = absurd (cc (other _ told))
  go (Ok (OtherMargin at found)) is told = absurd (cc (other _ told))
  go (Ok (Stands order)) is told = absurd (cc (other _ told))
  go (Ok (NotLeast found)) is told = absurd (cc (other _ told))
  go (Ok NotAlternative) is told = absurd (cc (other _ told))
  go (Ok (Harder a margin)) is told = absurd (cc (other _ told))
  go (Ok (OtherDraws at found)) is told = absurd (cc (other _ told))
  go (Err (CheckSpent last)) is told = absurd (cc (other _ told))
  go (Err (CheckSpentSets sets)) is told = absurd (cc (other _ told))
  go (Err CheckMemory) is told = absurd (cc told)

pub other-checked : (budget : Budget) (ballots : BallotFile) (file : Content) (verdict : Verdict) → Checks budget ballots file verdict → status verdict ≢ 0 →
    Trims budget ballots file verdict
other-checked budget ballots file verdict (answer, is, told) ne = (answer, is, go answer told) where
  go : (answer : Answer) → check_verdict file answer ≡ Some verdict → verdict_on budget file answer ≡ Some verdict
  go (Ok Accepted) told = absurd (ne (ap status (sym (some_is told))))
  go (Ok OtherContest) told = told
  go (Ok (OtherWinner c)) told = told
  go (Ok (OtherMargin at found)) told = told
  go (Ok (Stands order)) told = told
  go (Ok (NotLeast found)) told = told
  go (Ok NotAlternative) told = told
  go (Ok (Harder a margin)) told = told
  go (Ok (OtherDraws at found)) told = told
  go (Err (CheckSpent last)) told = told
  go (Err (CheckSpentSets sets)) told = told
  go (Err CheckMemory) told = told

-- ---- a trial that is out of budget names a candidate

module _ (budget : Budget) (file : Content) where
  trial-below : (number claim last : ℕ) (own : Claim) (later : List Claim) (r : Result CoverVerdict CoverFault) →
      ((c : ℕ) → r ≡ Err (CoverSpent c) → c < candidate_count file) → unless_it_goes own later (can_go number r) ≡ Err (TrimSpent claim last) →
      last < candidate_count file
  trial-below number claim last own later (Ok Covered) below e = cc
  trial-below number claim last own later (Ok (OrderStands order)) below e = cc
  trial-below number claim last own later (Err (CoverSpent c)) below e = let same : c ≡ last = cc in subst (λ c. c < candidate_count file) same (below c refl)
  trial-below number claim last own later (Err (CoverSpentSets sets)) below e = cc
  trial-below number claim last own later (Err CoverMemory) below e = cc

  left-below : (earlier later : List Claim) (claim last : ℕ) → left_of budget file earlier later ≡ Err (TrimSpent claim last) → last < candidate_count file
  left-below earlier [] claim last e = cc
  left-below earlier (own ∷ later) claim last e = go (left_of budget file (earlier ++ own ∷ []) later) e (left-below (earlier ++ own ∷ []) later claim last) where
    go : (r : Result (List Claim) TrimFault) → tried budget file earlier own r ≡ Err (TrimSpent claim last) →
        (r ≡ Err (TrimSpent claim last) → last < candidate_count file) → last < candidate_count file
    go (Ok left) e ih =
        trial-below (length earlier + 1) claim last own left (covered_by budget file (earlier ++ left))
        (fault-below (candidate_count file) file.winner (map (λ (claim : Claim). claim.assertion) (earlier ++ left)) budget) e
    go (Err fault) e ih = ih e

  pub spent-below : (claim last : ℕ) → trimmed budget file ≡ Err (TrimSpent claim last) → last < candidate_count file
  spent-below claim last e = go (left_of budget file [] file.claims) refl e where
    go : (r : Result (List Claim) TrimFault) → left_of budget file [] file.claims ≡ r → with_claims file (plan_left budget file) r ≡ Err (TrimSpent claim last) →
        last < candidate_count file
    go (Ok left) f e = cc
    go (Err fault) f e = let same : fault ≡ TrimSpent claim last = cc in left-below [] file.claims claim last (f ∙ ap Err same)

-- ---- what follows from a check

pub done-answer : (budget : Budget) (ballots : BallotFile) (file : Content) (due : Outcome) → IsOneOrMemory (Checks budget ballots file) due → due.status ≡ 0 →
    IsAnswer budget ballots file (Ok Accepted)
done-answer budget ballots file due (inl (verdict, checks, e)) zero' =
    done-accepted budget ballots file verdict checks (sym (ap (λ (o : Outcome). o.status) e) ∙ zero')
done-answer budget ballots file due (inr memory) zero' =
    let nine : due.status ≡ 9 = ap (λ (o : Outcome). o.status) memory in
    absurd (omega (arith, nine, zero'))

-- what is said of a file that was read
pub told-ok : {A Why : Type 0} (words : Why → Verdict) (read : Result A Why) (value : A) → told words read ≡ Ok value → read ≡ Ok value
told-ok words (Ok other) value e = let same : other ≡ value = cc in ap Ok same
told-ok words (Err why) value e = cc
