-- A later call accepts what a trim printed, and trims it to the same text.
use Rattle.std.proofs.Common.{◌≡◌, ◌⊎◌, inl, inr, ℕ, List, Some, Result, Ok, Err, refl, sym, ap, subst, ◌∙◌, arith}
use Rattle.desk.specs.Desk.{File}
use Rattle.budget.specs.declared.budget.Budget.{Budget}
use Rattle.assertion_file.specs.Content.{Content}
use Rattle.assertion_file.specs.Reading.{assertion_file_of}
use Rattle.assertion_file.specs.Text.{assertion_file_text}
use Rattle.ballots.specs.Ballots.{BallotFile}
use Rattle.ballots.specs.Grammar.{ballots_of}
use Rattle.cover_checker.specs.Checks.{IsAnswer}
use Rattle.cover_checker.specs.declared.checked.Checked.TheVariants.{Accepted}
use Rattle.cover_checker.proofs.OneAnswer.{answer_is_one}
use Rattle.trimmer.specs.Trimmed.{trimmed}
use Rattle.trimmer.specs.declared.fault.TrimFault.{TrimFault}
use Rattle.trimmer.specs.declared.fault.TrimFault.TheVariants.{Spent as TrimSpent, SpentSets as TrimSpentSets, Memory as TrimMemory}
use Rattle.trimmer.proofs.Kept.{trimmed_stays}
use Rattle.cli_base.specs.Ends.{Took}
use Rattle.cli_base.specs.Outcome.{Outcome, Verdict, Answered, outcome}
use Rattle.cli_base.specs.Script.{Script, Ends, AsHeld, ComesTo, Concludes, May, MayCome}
use Rattle.cli_base.specs.declared.outcome.AnswerKind.TheVariants.{Done}
use Rattle.cli_base.proofs.Scripts.{ended, some_is}
use Rattle.cli_base.proofs.Statuses.{answer_verdict, stopped}
use Rattle.command_line.specs.declared.commands.Command.TheVariants.{Check, Trim}
use Rattle.check_command.specs.Check.{Checks, after_ballots as check_after_ballots, yes_text}
use Rattle.check_command.proofs.Checks.{accepted_is_yes}
use Rattle.input_files.specs.Refusals.{refused_assertions, refused_ballots}
use Rattle.trim_command.specs.Trim.{Trims, after_ballots, script, trim_verdict, verdict_on}
use Rattle.raire_cli.specs.Asks.{Asks}
use Rattle.call_laws.specs.Agreement.{Call}
use Rattle.raire_cli.specs.Answers.{asked, asked_by}
use Rattle.call_laws.specs.PrintedFiles.{HasPrinted, TrimmedIsAccepted, TrimmedIsTrimmed}
use Rattle.call_laws.proofs.Agreement.{not_spent}
use Rattle.call_laws.proofs.Ended.{ends_with}
use Rattle.call_laws.proofs.PrintedFiles.{one_text}
use Rattle.raire_cli.proofs.Said.{may_say, says}
use Rattle.raire_cli.proofs.Trims.{Left, accepted_left, left_by, reads_back}

-- ---- what was printed

module _ {words : List (List ℕ)} (files : List File) (trim : Asks Trim words) where
  left_in : (d : Outcome) → d.status ≡ 0 → MayCome (AsHeld files) (asked words) d → Left words files trim d.out
  left_in d zero may = elim (ended (AsHeld files) (script trim.task) d (subst (λ command. MayCome (AsHeld files) (asked_by command) d) trim.asked may)) [
    | inl (v, concludes, is) ↦
        let (text, answered) = answer_verdict Done v d is zero in
        let shown : d.out ≡ text = ap (λ (o : Outcome). o.out) is ∙ ap (λ v. (outcome v).out) answered in
        left_by words files trim d.out (subst (λ command. ComesTo (AsHeld files) (asked_by command) (Answered Done d.out)) (sym trim.asked)
        (subst (Concludes (AsHeld files) (script trim.task)) (answered ∙ ap (Answered Done) (sym shown)) concludes))
    | inr (name, reading, reaches, there, stops) ↦ absurd (stopped 0 name reading d stops zero refl refl refl)
  ]

  pub left_of_call : (call : Call) (text : List ℕ) → HasPrinted words files call text → Left words files trim text
  left_of_call call text printed = elim printed.answer.otherwise [
    | inl undone ↦ absurd (let zero = printed.done in omega (arith, undone, zero))
    | inr (to_out, to_err, may, took, took_err) ↦
        let ended : Outcome = record { status = call.status; out = to_out; err = to_err } in
        let may' : MayCome (AsHeld files) (asked words) ended = may in
        subst (Left words files trim) (sym (one_text call.out printed.before text to_out printed.told_before printed.told_after took))
        (left_in ended printed.done may')
  ]

-- ---- a check

pub trimmed_is_accepted : TrimmedIsAccepted
trimmed_is_accepted words others trim check files more first second text printed holds settled =
    let task = check.asks.task in
    let l = left_of_call files trim first text printed in
    let reads : assertion_file_of text ≡ Ok l.left = subst (λ t. assertion_file_of t ≡ Ok l.left) (sym l.shown) (reads_back words files trim text l) in
    let yes : Verdict = Answered Done (yes_text l.left) in
    let checks : Checks task.budget l.ballots l.left yes =
    subst (λ budget. Checks budget l.ballots l.left yes) (sym check.same_budget)
    ((accepted_is_yes trim.task.budget l.ballots l.left yes (accepted_left words files trim text l)).1 refl) in
    let with_ballots : List ℕ → BallotFile → Script = λ bytes ballots. check_after_ballots task.assertions task.budget ballots in
    let after : May (AsHeld more) (check_after_ballots task.assertions task.budget l.ballots) (outcome yes) =
    may_say more task.assertions (refused_assertions task.assertions) assertion_file_of (λ bytes file. Ends (Checks task.budget l.ballots file)) text
    holds.printed holds.is_short l.left reads (outcome yes) (yes, checks, refl) in
    let comes : MayCome (AsHeld more) (asked_by (Some (Check task))) (outcome yes) =
    may_say more task.ballots (refused_ballots task.ballots) (λ bytes. ballots_of bytes task.contest) with_ballots l.are.of_ballots.bytes
    (holds.same_ballots ∙ l.are.of_ballots.held) l.are.of_ballots.is_short l.ballots (ap (ballots_of l.are.of_ballots.bytes) check.same_contest ∙ l.are.of_ballots.is) (outcome yes)
    after in
    (ends_with others more (outcome yes) (subst (λ command. MayCome (AsHeld more) (asked_by command) (outcome yes)) (sym check.asks.asked) comes)
    (λ asks. absurd (not_spent others (Check task) check.asks.asked refl asks))).alone second settled

-- ---- a trim

-- a file that stays as it is has the same text, or a trial runs out of budget
module _ (budget : Budget) (ballots : BallotFile) (file left : Content) (accepted : IsAnswer budget ballots left (Ok Accepted)) (is : trimmed budget file ≡ Ok left) where
  abbrev IsSame : Verdict → Type 0
  IsSame v = ((outcome v).status ≡ 4) ⊎ (v ≡ Answered Done (assertion_file_text left))

  same_verdict : (r : Result Content TrimFault) (v : Verdict) → trimmed budget left ≡ r → trim_verdict left r ≡ Some v → IsSame v
  same_verdict (Ok again) v found told =
      let stays : again ≡ left = trimmed_stays budget file left again is found in
      inr (sym (some_is told) ∙ ap (λ content. Answered Done (assertion_file_text content)) stays)
  same_verdict (Err (TrimSpent claim last)) v found told = inl (ap (λ v. (outcome v).status) (sym (some_is told)))
  same_verdict (Err (TrimSpentSets claim sets)) v found told = inl (ap (λ v. (outcome v).status) (sym (some_is told)))
  same_verdict (Err TrimMemory) v found told = absurd (cc told)

  trims_same : (v : Verdict) → Trims budget ballots left v → IsSame v
  trims_same v (answer, found, told) =
      let yes : answer ≡ Ok Accepted = answer_is_one budget ballots left answer (Ok Accepted) found accepted in
      same_verdict (trimmed budget left) v refl (subst (λ a. verdict_on budget left a ≡ Some v) yes told)

pub trimmed_is_trimmed : TrimmedIsTrimmed
trimmed_is_trimmed words others trim again files more first second text printed holds settled =
    let task = again.asks.task in
    let l = left_of_call files trim first text printed in
    let reads : assertion_file_of text ≡ Ok l.left = subst (λ t. assertion_file_of t ≡ Ok l.left) (sym l.shown) (reads_back words files trim text l) in
    let (out, err, may, took, took_err) = settled.answer.quiet settled.quiet settled.memory in
    let ended : Outcome = record { status = second.status; out = out; err = err } in
    let comes : May (AsHeld more) (script task) ended = subst (λ command. MayCome (AsHeld more) (asked_by command) ended) again.asks.asked may in
    let with_ballots : List ℕ → BallotFile → Script = λ bytes ballots. after_ballots task.assertions task.budget ballots in
    let after : May (AsHeld more) (after_ballots task.assertions task.budget l.ballots) ended =
    says more task.ballots (refused_ballots task.ballots) (λ bytes. ballots_of bytes task.contest) with_ballots l.are.of_ballots.bytes
    (holds.same_ballots ∙ l.are.of_ballots.held) l.are.of_ballots.is_short l.ballots (ap (ballots_of l.are.of_ballots.bytes) again.same_contest ∙ l.are.of_ballots.is) ended comes in
    let (v, trims, is) = says more task.assertions (refused_assertions task.assertions) assertion_file_of (λ bytes file. Ends (Trims task.budget l.ballots file))
    text holds.printed holds.is_short l.left reads ended after in
    elim (trims_same trim.task.budget l.ballots l.file l.left (accepted_left words files trim text l) l.is v
    (subst (λ budget. Trims budget l.ballots l.left v) again.same_budget trims)) [
      | inl four ↦ inl (ap (λ (o : Outcome). o.status) is ∙ four)
      | inr same ↦ inr (
        ap (λ (o : Outcome). o.status) is ∙ ap (λ v. (outcome v).status) same,
        subst (Took second.out) (ap (λ (o : Outcome). o.out) is ∙ ap (λ v. (outcome v).out) same ∙ sym l.shown) took,
      )
    ]
