-- The answer of a check says whether it accepts.
use Rattle.std.proofs.Common.{◌≡◌, ◌≢◌, inl, inr, ℕ, true, false, List, Some, Ok, Err, refl, sym, ap, subst, ◌∙◌}
use Rattle.std.proofs.lemmas.Bool.{cases_Bool}
use Rattle.budget.specs.declared.budget.Budget.{Budget}
use Rattle.ballots.specs.Ballots.{BallotFile}
use Rattle.assertion_file.specs.Content.{Content}
use Rattle.cover_checker.specs.Checks.{IsAnswer}
use Rattle.cover_checker.specs.Findings.{Answer}
use Rattle.cover_checker.specs.declared.checked.Checked.TheVariants.{OtherContest, OtherWinner, OtherMargin, Stands, NotLeast, NotAlternative, Harder, OtherDraws, Accepted}
use Rattle.cover_checker.specs.declared.checked.CheckFault.TheVariants.{Spent as SpentAt, SpentSets, Memory}
use Rattle.cover_checker.proofs.OneAnswer.{answer_is_one}
use Rattle.cli_base.specs.Outcome.{Outcome, Verdict, Answered, outcome, status_of, out_of_memory}
use Rattle.cli_base.specs.Due.{due, due_refusal, IsOneOrMemory}
use Rattle.cli_base.specs.declared.outcome.Answer.{Answer as Reply}
use Rattle.cli_base.specs.declared.outcome.AnswerKind.{AnswerKind}
use Rattle.cli_base.specs.declared.outcome.AnswerKind.TheVariants.{Done, Spent, Differs}
use Rattle.cli_base.specs.declared.outcome.Refusal.{Refusal}
use Rattle.cli_base.specs.declared.outcome.Refusal.TheVariants.{Words, Memory as OutOfMemory, Line}
use Rattle.cli_base.specs.declared.outcome.RefusalKind.TheVariants.{Input, ReadFault, TooLong, Missing}
use Rattle.cli_base.proofs.Scripts.{some_is}
use Rattle.cli_base.proofs.Statuses.{status_in, same_kind, of_no_kind}
use Rattle.check_command.specs.Check.{Checks, verdict_on}
use Rattle.cli_base.specs.Script.{Ends, Readings, Runs, Script}
use Rattle.session_commands.specs.Accepted.{if_accepted, is_accepted, on_if}
use Rattle.desk.specs.declared.served.Served.{Served}
use Rattle.cli_base.specs.Begun.{HasCome}
use Rattle.cli_base.proofs.Begun.{EndsNow}
use Rattle.session_commands.proofs.Acceptance.{decided}

-- the kind of an answer
abbrev kind_on : Answer → AnswerKind
kind_on (Ok Accepted) = Done
kind_on (Ok OtherContest) = Differs
kind_on (Ok (OtherWinner winner)) = Differs
kind_on (Ok (OtherMargin index found)) = Differs
kind_on (Ok (Stands order)) = Differs
kind_on (Ok (NotLeast found)) = Differs
kind_on (Ok NotAlternative) = Differs
kind_on (Ok (Harder assertion margin)) = Differs
kind_on (Ok (OtherDraws index found)) = Differs
kind_on (Err (SpentAt last)) = Spent
kind_on (Err (SpentSets sets)) = Spent
kind_on (Err Memory) = Spent

told_kind : (file : Content) (answer : Answer) (v : Verdict) → verdict_on file answer ≡ Some v → (text : List ℕ) × (v ≡ Answered (kind_on answer) text)
told_kind file (Ok Accepted) v told = (_, sym (some_is told))
told_kind file (Ok OtherContest) v told = (_, sym (some_is told))
told_kind file (Ok (OtherWinner winner)) v told = (_, sym (some_is told))
told_kind file (Ok (OtherMargin index found)) v told = (_, sym (some_is told))
told_kind file (Ok (Stands order)) v told = (_, sym (some_is told))
told_kind file (Ok (NotLeast found)) v told = (_, sym (some_is told))
told_kind file (Ok NotAlternative) v told = (_, sym (some_is told))
told_kind file (Ok (Harder assertion margin)) v told = (_, sym (some_is told))
told_kind file (Ok (OtherDraws index found)) v told = (_, sym (some_is told))
told_kind file (Err (SpentAt last)) v told = (_, sym (some_is told))
told_kind file (Err (SpentSets sets)) v told = (_, sym (some_is told))
told_kind file (Err Memory) v told = absurd (cc told)

done_is : (answer : Answer) → kind_on answer ≡ Done → answer ≡ Ok Accepted
done_is (Ok Accepted) is = refl
done_is (Ok OtherContest) is = absurd (cc is)
done_is (Ok (OtherWinner winner)) is = absurd (cc is)
done_is (Ok (OtherMargin index found)) is = absurd (cc is)
done_is (Ok (Stands order)) is = absurd (cc is)
done_is (Ok (NotLeast found)) is = absurd (cc is)
done_is (Ok NotAlternative) is = absurd (cc is)
done_is (Ok (Harder assertion margin)) is = absurd (cc is)
done_is (Ok (OtherDraws index found)) is = absurd (cc is)
done_is (Err (SpentAt last)) is = absurd (cc is)
done_is (Err (SpentSets sets)) is = absurd (cc is)
done_is (Err Memory) is = absurd (cc is)

module _ (budget : Budget) (ballots : BallotFile) (file : Content) where
  -- the kind of what was said is that of the checker's answer
  reply_kind : (reply : Reply) (answer : Answer) (v : Verdict) → verdict_on file answer ≡ Some v → due (Ok reply) ≡ outcome v → reply.kind ≡ kind_on answer
  reply_kind reply answer v told is =
      let (text, e) = told_kind file answer v told in
      same_kind reply.kind (kind_on answer) (ap status_in is ∙ ap (λ v. status_in (outcome v)) e)

  pub yes : (reply : Reply) → IsOneOrMemory (Checks budget ballots file) (due (Ok reply)) → reply.kind ≡ Done → is_accepted budget ballots file ≡ true
  yes reply (inl (v, (answer, is, told), ends)) done =
      (decided budget ballots file).1 (subst (IsAnswer budget ballots file) (done_is answer (sym (reply_kind reply answer v told ends) ∙ done)) is)
  yes reply (inr memory) done = absurd (of_no_kind 9 refl reply.kind (ap status_in memory))

  pub no : (reply : Reply) → IsOneOrMemory (Checks budget ballots file) (due (Ok reply)) → reply.kind ≢ Done → is_accepted budget ballots file ≡ false
  no reply (inl (v, (answer, is, told), ends)) other = elim (cases_Bool (is_accepted budget ballots file)) [
    | inl t ↦
        let same : answer ≡ Ok Accepted = answer_is_one budget ballots file answer (Ok Accepted) is ((decided budget ballots file).0 t) in
        absurd (other (reply_kind reply answer v told ends ∙ ap kind_on same))
    | inr f ↦ f
  ]
  no reply (inr memory) other = absurd (of_no_kind 9 refl reply.kind (ap status_in memory))

  -- a refusal isn't an answer
  never_refused : (refusal : Refusal) (kind : AnswerKind) → (due_refusal refusal).status ≡ status_of kind → (due_refusal refusal) ≡ out_of_memory
  never_refused Words kind is = absurd (of_no_kind 1 refl kind (sym is))
  never_refused OutOfMemory kind is = refl
  never_refused (Line Input text) kind is = absurd (of_no_kind 2 refl kind (sym is))
  never_refused (Line ReadFault text) kind is = absurd (of_no_kind 7 refl kind (sym is))
  never_refused (Line TooLong text) kind is = absurd (of_no_kind 11 refl kind (sym is))
  never_refused (Line Missing text) kind is = absurd (of_no_kind 12 refl kind (sym is))

  pub memory_alone : (refusal : Refusal) → IsOneOrMemory (Checks budget ballots file) (due_refusal refusal) → due_refusal refusal ≡ out_of_memory
  memory_alone refusal (inl (v, (answer, is, told), ends)) =
      let (text, e) = told_kind file answer v told in
      never_refused refusal (kind_on answer) (ap status_in ends ∙ ap (λ v. status_in (outcome v)) e)
  memory_alone refusal (inr memory) = memory

  -- a script continues if a check accepts the file, and otherwise ends with what the check says
  pub accepted_on : {x y : Served} (readings : Readings) (next : Script) (due : Outcome) → is_accepted budget ballots file ≡ true →
      HasCome readings x y (Runs next) due → HasCome readings x y (Runs (if_accepted budget ballots file next)) due
  accepted_on {x} {y} readings next due yes come =
      subst (λ b. HasCome readings x y (Runs (on_if b next (Ends (Checks budget ballots file)))) due) (sym yes) come

  pub accepted_now : (next : Script) (due : Outcome) → is_accepted budget ballots file ≡ true → EndsNow next due →
      EndsNow (if_accepted budget ballots file next) due
  accepted_now next due yes now = subst (λ b. EndsNow (on_if b next (Ends (Checks budget ballots file))) due) (sym yes) now

  pub checked_now : (next : Script) (due : Outcome) → is_accepted budget ballots file ≡ false → IsOneOrMemory (Checks budget ballots file) due →
      EndsNow (if_accepted budget ballots file next) due
  checked_now next due no one = subst (λ b. EndsNow (on_if b next (Ends (Checks budget ballots file))) due) (sym no) one
