-- A command that judges an assertion file doesn't run out of budget if its budget is large enough.
use Rattle.std.proofs.Common.{◌≡◌, ℕ, ◌≤◌, ◌-◌, ◌*◌, List, length, Bool, true, false, Option, None, Some, Result, Ok, Err, MatchBool, map, refl, sym, ap, subst, arith}
use Rattle.std.specs.Prelude.{option_map, unwrap_or}
use Rattle.std.specs.Option.{option_or}
use Rattle.sha2.specs.Sha256.{sha256}
use Rattle.desk.specs.Desk.{File, held_bytes}
use Rattle.assertions.specs.Suffixes.{factorial}
use Rattle.budget.specs.declared.budget.Budget.{Budget}
use Rattle.budget.specs.declared.budget.Budget.TheVariants.{Nodes}
use Rattle.ballots.specs.Ballots.{BallotFile}
use Rattle.ballots.specs.Grammar.{ballots_of}
use Rattle.manifest.specs.Cards.{Batches, cards_of}
use Rattle.manifest.specs.Linked.{linked_of}
use Rattle.manifest.specs.Manifest.{manifest_of}
use Rattle.sampler.specs.Draws.{drawn_card}
use Rattle.seen_file.specs.Reading.{seen_of}
use Rattle.seen_file.specs.Seen.{Entry}
use Rattle.assertion_file.specs.Content.{Content as FileContent, IsSound, candidate_count, margins_of}
use Rattle.assertion_file.specs.Reading.{assertion_file_of}
use Rattle.assertion_file.proofs.SoundFiles.{read_is_sound}
use Rattle.session_state.specs.Claims.{values_of}
use Rattle.session_state.specs.Content.{Content}
use Rattle.session_state.specs.Inputs.{has_facts}
use Rattle.session_state.specs.Sessions.{is_signed_off}
use Rattle.audit_session.specs.Refusals.{unseen_draw}
use Rattle.session_state.specs.declared.digests.Digests.{Digests}
use Rattle.cover_checker.specs.Checks.{IsAnswer}
use Rattle.cover_checker.specs.Covers.{first_over, or_spent, standing_order, verdict_on as cover_verdict_on, IsEnoughFor}
use Rattle.cover_checker.specs.Findings.{Answer, assertions_of}
use Rattle.cover_checker.specs.declared.checked.Checked.TheVariants.{OtherContest, OtherWinner, OtherMargin, Stands, NotLeast, NotAlternative, Harder, OtherDraws, Accepted}
use Rattle.cover_checker.specs.declared.checked.CheckFault.{CheckFault}
use Rattle.cover_checker.specs.declared.checked.CheckFault.TheVariants.{Spent as SpentAt, SpentSets, Memory}
use Rattle.cover_checker.specs.declared.cover.CoverFault.TheVariants.{Spent as CoverSpent}
use Rattle.cover_checker.proofs.Enough.{never_over, never_spent as cover_never_spent}
use Rattle.cover_checker.proofs.Existing.{answer_never_fault}
use Rattle.cli_base.specs.Confirmed.{confirmed_kind}
use Rattle.cli_base.specs.Outcome.{Verdict, Answered, Refused}
use Rattle.cli_base.specs.Script.{Script, Read, Ends, Bytes, AsHeld, ComesTo, Concludes}
use Rattle.cli_base.specs.Statuses.{HasAnswer}
use Rattle.cli_base.specs.declared.outcome.AnswerKind.TheVariants.{Spent}
use Rattle.cli_base.proofs.Scripts.{some_is}
use Rattle.command.specs.declared.audit.AuditTask.{AuditTask}
use Rattle.command.specs.declared.check.CheckTask.{CheckTask}
use Rattle.command.specs.declared.open.OpenTask.{OpenTask}
use Rattle.command.specs.declared.poll.PollTask.{PollTask}
use Rattle.command.specs.declared.poll_each.PollEachTask.{PollEachTask}
use Rattle.command.specs.declared.trim.TrimTask.{TrimTask}
use Rattle.command_line.specs.Line.{command_of}
use Rattle.command_line.specs.declared.commands.Command.{Command}
use Rattle.command_line.specs.declared.commands.Command.TheVariants.{Check, Trim, Open, Audit, Poll, PollEach}
use Rattle.check_command.specs.Check.{Checks, verdict_on}
use Rattle.check_command.specs.Check as check
use Rattle.trimmer.specs.Trimmed.{trimmed}
use Rattle.trimmer.specs.declared.fault.TrimFault.{TrimFault}
use Rattle.trimmer.proofs.Enough.{file-never}
use Rattle.trimmer.proofs.Lefts.{assertion_in}
use Rattle.trim_command.specs.Trim.{Trims, trim_verdict}
use Rattle.trim_command.specs.Trim as trim
use Rattle.input_files.specs.Cards.{cards_for}
use Rattle.input_files.specs.Judged.{told, go_on}
use Rattle.input_files.specs.Refusals.{no_record_text, refused_assertions, refused_ballots, refused_manifest, refused_seen}
use Rattle.poll_command.specs.Each as poll_each
use Rattle.poll_command.specs.Poll as poll
use Rattle.input_files.proofs.Going.{IsRefusal, OnlyRefuses, cards-only, told-only}
use Rattle.session_commands.specs.Accepted.{if_accepted, is_accepted, on_if}
use Rattle.session_commands.specs.Audit as audit
use Rattle.session_commands.specs.Open as opening
use Rattle.session_rounds.specs.Rounds.{same_ballots, same_manifest, session_to_go_on, verdict_of}
use Rattle.session_commands.proofs.Audits.{assertions-only}
use Rattle.session_rounds.proofs.OneRound.{ballots-only, manifest-only, next-only, session-only}
use Rattle.raire_cli.specs.Answers.{asked, asked_by, script_of}
use Rattle.raire_cli.specs.Enough.{AreEnough, Judging, judging_of}
use Rattle.raire_cli.proofs.Said.{held_whole, value_of, told_ok, unless_ok}
use Rattle.raire_cli.proofs.Unrefused.{round_on}

-- ---- a check

pub spent_answer : (file : FileContent) (answer : Answer) (text : List ℕ) → verdict_on file answer ≡ Some (Answered Spent text) →
    (fault : CheckFault) × (answer ≡ Err fault)
spent_answer file (Ok OtherContest) text is = absurd (cc is)
spent_answer file (Ok (OtherWinner winner)) text is = absurd (cc is)
spent_answer file (Ok (OtherMargin index found)) text is = absurd (cc is)
spent_answer file (Ok (Stands order)) text is = absurd (cc is)
spent_answer file (Ok (NotLeast found)) text is = absurd (cc is)
spent_answer file (Ok NotAlternative) text is = absurd (cc is)
spent_answer file (Ok (Harder assertion margin)) text is = absurd (cc is)
spent_answer file (Ok (OtherDraws index found)) text is = absurd (cc is)
spent_answer file (Ok Accepted) text is = absurd (cc is)
spent_answer file (Err fault) text is = (fault, refl)

checks-never : (budget : Budget) (ballots : BallotFile) (file : FileContent) (text : List ℕ) → IsSound file → IsEnoughFor (candidate_count file) budget →
    Checks budget ballots file (Answered Spent text) → ⊥
checks-never budget ballots file text sound enough (answer, found, is) =
    let (fault, e) = spent_answer file answer text is in
    let within = never_over (candidate_count file) file.winner (assertions_of file) budget sound.winner (omega (arith, sound.fewest)) enough in
    answer_never_fault budget ballots file fault within (subst (IsAnswer budget ballots file) e found)

-- ---- a trim

pub spent_trial : (file : FileContent) (r : Result FileContent TrimFault) (text : List ℕ) → trim_verdict file r ≡ Some (Answered Spent text) →
    (fault : TrimFault) × (r ≡ Err fault)
spent_trial file (Ok left) text is = absurd (cc is)
spent_trial file (Err fault) text is = (fault, refl)

trims-never : (budget : Budget) (ballots : BallotFile) (file : FileContent) (text : List ℕ) → IsSound file → IsEnoughFor (candidate_count file) budget →
    Trims budget ballots file (Answered Spent text) → ⊥
trims-never budget ballots file text sound enough (Ok Accepted, found, is) =
    let (fault, e) = spent_trial file (trimmed budget file) text is in
    file-never budget file (λ claims. never_over (candidate_count file) file.winner (map assertion_in claims) budget sound.winner (omega (arith, sound.fewest))
    enough) fault e
trims-never budget ballots file text sound enough (Ok OtherContest, found, is) = checks-never budget ballots file text sound enough (Ok OtherContest, found, is)
trims-never budget ballots file text sound enough (Ok (OtherWinner c), found, is) = checks-never budget ballots file text sound enough (Ok (OtherWinner c), found, is)
trims-never budget ballots file text sound enough (Ok (OtherMargin at m), found, is) = checks-never budget ballots file text sound enough (Ok (OtherMargin at m), found, is)
trims-never budget ballots file text sound enough (Ok (Stands order), found, is) = checks-never budget ballots file text sound enough (Ok (Stands order), found, is)
trims-never budget ballots file text sound enough (Ok (NotLeast m), found, is) = checks-never budget ballots file text sound enough (Ok (NotLeast m), found, is)
trims-never budget ballots file text sound enough (Ok NotAlternative, found, is) = checks-never budget ballots file text sound enough (Ok NotAlternative, found, is)
trims-never budget ballots file text sound enough (Ok (Harder a m), found, is) = checks-never budget ballots file text sound enough (Ok (Harder a m), found, is)
trims-never budget ballots file text sound enough (Ok (OtherDraws at d), found, is) = checks-never budget ballots file text sound enough (Ok (OtherDraws at d), found, is)
trims-never budget ballots file text sound enough (Err (SpentAt last), found, is) = checks-never budget ballots file text sound enough (Err (SpentAt last), found, is)
trims-never budget ballots file text sound enough (Err (SpentSets sets), found, is) = checks-never budget ballots file text sound enough (Err (SpentSets sets), found, is)
trims-never budget ballots file text sound enough (Err Memory, found, is) = checks-never budget ballots file text sound enough (Err Memory, found, is)

-- an answer that says whether everything is confirmed never runs out of budget
told-never : (yes : Bool) → Spent ≡ confirmed_kind yes → ⊥
told-never true is = cc is
told-never false is = cc is

module _ (files : List File) (text : List ℕ) where
  -- what is read never makes a budget run out
  abbrev Never : Script → Type 0
  Never script = Concludes (AsHeld files) script (Answered Spent text) → ⊥

  after_value : {A : Type 0} (judged : Result A Verdict) (next : A → Script) → OnlyRefuses judged → ((value : A) → judged ≡ Ok value → Never (next value)) →
      Never (go_on judged next)
  after_value judged next only each comes = let (value, is, on) = value_of (AsHeld files) judged next Spent text only comes in each value is on

  -- ---- a round, after its assertion file was accepted

  next-never : (judged : Result Content Verdict) → OnlyRefuses judged → Answered Spent text ≡ verdict_of judged → ⊥
  next-never (Ok next) only is = told-never (is_signed_off next.session) (cc is)
  next-never (Err (Refused name t)) only is = cc is
  next-never (Err (Answered kind t)) only is = absurd only

  pub facts-never : (task : AuditTask) (session : Content) (ballots : BallotFile) (batches : Batches) (file : FileContent) →
      Never (audit.after_check task session ballots batches file)
  facts-never task session ballots batches file comes =
      let (agrees, seen) = round_on files task.session task.seen task.draws (has_facts session (length (cards_of batches)) file.contest (margins_of file)) session
      (values_of file) batches (linked_of batches ballots) file.candidates Spent text comes in
      next-never _ (next-only task.session task.seen task.draws session (values_of file) (record { recorded = linked_of batches ballots; entries = seen.value }))
      seen.rest

module _ (files : List File) (judging : Judging) (enough : AreEnough files judging) (text : List ℕ) where
  -- the budget of a command that judges the assertion file is enough for what the file says
  few_there : (assertions : List ℕ) (budget : Budget) → assertions ≡ judging.assertions → budget ≡ judging.budget → (bytes : List ℕ) (file : FileContent) →
      AsHeld files assertions (Bytes bytes) → assertion_file_of bytes ≡ Ok file → IsEnoughFor (candidate_count file) budget
  few_there assertions budget name same bytes file there is =
      let its : AsHeld files judging.assertions (Bytes bytes) = subst (λ n. AsHeld files n (Bytes bytes)) name there in
      subst (IsEnoughFor (candidate_count file)) (sym same) (enough bytes file (held_whole (held_bytes judging.assertions files) bytes its) is)

  -- the command continues with what is read from a file
  abbrev ReadNever : {A Why : Type 0} → List ℕ → (Why → Verdict) → (List ℕ → Result A Why) → (List ℕ → A → Script) → Type 0
  ReadNever {A} name words read next =
      ((bytes : List ℕ) (value : A) → AsHeld files name (Bytes bytes) → read bytes ≡ Ok value → Never files text (next bytes value)) →
      Never files text (Read name (λ bytes. go_on (told words (read bytes)) (next bytes)))

  read-never : {A Why : Type 0} (name : List ℕ) (words : Why → Verdict) (read : List ℕ → Result A Why) (next : List ℕ → A → Script) →
      ((why : Why) → IsRefusal (words why)) → ReadNever name words read next
  read-never name words read next refuses each (bytes, there, rest) =
      after_value files text (told words (read bytes)) (next bytes) (told-only words (read bytes) refuses)
      (λ value is. each bytes value there (told_ok words (read bytes) value is)) rest

  check-never : (task : CheckTask) → task.assertions ≡ judging.assertions → task.budget ≡ judging.budget → Never files text (check.script task)
  check-never task name same =
      read-never task.ballots (refused_ballots task.ballots) (λ bytes. ballots_of bytes task.contest)
      (λ bytes ballots. check.after_ballots task.assertions task.budget ballots) (λ why. tt)
      (λ b ballots at_b is_b. read-never task.assertions (refused_assertions task.assertions) assertion_file_of
      (λ bytes file. Ends (Checks task.budget ballots file)) (λ why. tt)
      (λ a file at_a is_a. checks-never task.budget ballots file text (read_is_sound a file is_a) (few_there task.assertions task.budget name same a file at_a is_a)))

  trim-never : (task : TrimTask) → task.assertions ≡ judging.assertions → task.budget ≡ judging.budget → Never files text (trim.script task)
  trim-never task name same =
      read-never task.ballots (refused_ballots task.ballots) (λ bytes. ballots_of bytes task.contest)
      (λ bytes ballots. trim.after_ballots task.assertions task.budget ballots) (λ why. tt)
      (λ b ballots at_b is_b. read-never task.assertions (refused_assertions task.assertions) assertion_file_of
      (λ bytes file. Ends (Trims task.budget ballots file)) (λ why. tt)
      (λ a file at_a is_a. trims-never task.budget ballots file text (read_is_sound a file is_a) (few_there task.assertions task.budget name same a file at_a is_a)))

  -- ---- a session that is opened

  opens-never : (task : OpenTask) (ballots : BallotFile) (batches : Batches) (file : FileContent) (digests : Digests) →
      IsSound file → IsEnoughFor (candidate_count file) task.budget →
      opening.Opens task ballots batches file digests (Answered Spent text) → ⊥
  opens-never task ballots batches file digests sound le opens = by (is_accepted task.budget ballots file) opens where
    by : (b : Bool) → MatchBool b (Answered Spent text ≡ opening.opened task batches file digests) (Checks task.budget ballots file (Answered Spent text)) → ⊥
    by true is = cc is
    by false checks = checks-never task.budget ballots file text sound le checks

  open-never : (task : OpenTask) → task.assertions ≡ judging.assertions → task.budget ≡ judging.budget → Never files text (opening.script task)
  open-never task name same =
      read-never task.ballots (refused_ballots task.ballots) (λ bytes. ballots_of bytes task.contest)
      (λ bytes ballots. opening.after_ballots task ballots (sha256 bytes)) (λ why. tt)
      (λ b ballots at_b is_b (m, at_m, from_m).
      after_value files text (cards_for task.ballots ballots task.manifest m) _ (cards-only task.ballots ballots task.manifest m) (λ batches is_m.
      read-never task.assertions (refused_assertions task.assertions) assertion_file_of _ (λ why. tt) (λ a file at_a is_a.
      opens-never task ballots batches file _ (read_is_sound a file is_a) (few_there task.assertions task.budget name same a file at_a is_a)))
      from_m)

  -- ---- a round of an audit

  accepted-never : (budget : Budget) (ballots : BallotFile) (file : FileContent) (next : Script) → IsSound file →
      IsEnoughFor (candidate_count file) budget → Never files text next →
      Never files text (if_accepted budget ballots file next)
  accepted-never budget ballots file next sound le never = by (is_accepted budget ballots file) where
    by : (b : Bool) → Never files text (on_if b next (Ends (Checks budget ballots file)))
    by true = never
    by false = λ checks. checks-never budget ballots file text sound le checks

  audit-never : (task : AuditTask) → task.assertions ≡ judging.assertions → task.budget ≡ judging.budget → Never files text (audit.script task)
  audit-never task name same = λ (s, at_s, from_s).
      after_value files text (session_to_go_on task.session task.draws s) _ (session-only task.session task.draws s) (λ session is_s (b, at_b, from_b).
      after_value files text (same_ballots task.ballots session b) _ (ballots-only task.ballots session b) (λ ballots is_b (m, at_m, from_m).
      after_value files text (same_manifest task.ballots task.manifest session ballots m) _ (manifest-only task.ballots task.manifest session ballots m)
      (λ batches is_m (a, at_a, from_a).
      after_value files text (audit.same_assertions task session a) _ (assertions-only task session a) (λ file is_a.
      let reads = told_ok (refused_assertions task.assertions) (assertion_file_of a) file (unless_ok _ _ file is_a).1 in
      accepted-never task.budget ballots file _ (read_is_sound a file reads) (few_there task.assertions task.budget name same a file at_a reads)
      (facts-never files text task session ballots batches file))
      from_a) from_m) from_b) from_s

  -- ---- a poll

  covered-never : (nodes : ℕ) (file : FileContent) (next : Script) → 2 * factorial (candidate_count file - 1) ≤ nodes → Never files text next →
      Never files text (poll.if_covered nodes file next)
  covered-never nodes file next le never =
      by (first_over n file.winner (assertions_of file) nodes) (standing_order n file.winner (assertions_of file)) refl where
        n : ℕ
        n = candidate_count file

        by : (over : Option ℕ) (left : Option (List ℕ)) → first_over n file.winner (assertions_of file) nodes ≡ over →
            Never files text (poll.unless_ended (option_or (option_map (poll.spent file) over) (option_map (poll.standing file) left)) next)
        by (Some last) left e is = cover_never_spent n file.winner nodes (assertions_of file) last le
            (ap (λ over. or_spent (option_map CoverSpent over) (cover_verdict_on (standing_order n file.winner (assertions_of file)))) e)
        by None (Some order) e is = cc is
        by None None e comes = never comes

  polls-never : (task : PollTask) (batches : Batches) (file : FileContent) (entries : List Entry) →
      poll.Polls task batches file entries (Answered Spent text) → ⊥
  polls-never task batches file entries is = by (unseen_draw task.seed cards entries task.draws) is where
    cards : ℕ
    cards = poll.cards task batches file entries

    by : (o : Option ℕ) → Answered Spent text ≡ unwrap_or (option_map (λ k. Refused task.seen (no_record_text (drawn_card task.seed k cards) k)) o)
        (poll.answered task batches file entries) → ⊥
    by None is = told-never (poll.is_yes task batches file entries) (cc is)
    by (Some k) is = cc is

  poll-never : (task : PollTask) → task.assertions ≡ judging.assertions → Nodes task.nodes ≡ judging.budget → Never files text (poll.script task)
  poll-never task name same =
      read-never task.manifest (refused_manifest task.manifest) manifest_of (λ bytes batches. poll.after_manifest task batches) (λ why. tt)
      (λ m batches at_m is_m. read-never task.assertions (refused_assertions task.assertions) assertion_file_of
      (λ bytes file. poll.after_assertions task batches file) (λ why. tt)
      (λ a file at_a is_a. covered-never task.nodes file (poll.after_cover task batches file)
      (few_there task.assertions (Nodes task.nodes) name same a file at_a is_a)
      (read-never task.seen (refused_seen task.seen) (seen_of batches file.candidates) (λ bytes entries. Ends (poll.Polls task batches file entries))
      (λ why. tt) (λ v entries at_v is_v. polls-never task batches file entries))))

  polls_each-never : (task : PollEachTask) (batches : Batches) (file : FileContent) (entries : List Entry) →
      poll_each.PollsEach task batches file entries (Answered Spent text) → ⊥
  polls_each-never task batches file entries is = by (unseen_draw task.seed cards entries (poll_each.draws_asked task batches file entries)) is where
    cards : ℕ
    cards = poll_each.cards task batches file entries

    by : (o : Option ℕ) → Answered Spent text ≡ unwrap_or (option_map (λ k. Refused task.seen (no_record_text (drawn_card task.seed k cards) k)) o)
        (poll_each.answered task batches file entries) → ⊥
    by None is = told-never (poll_each.is_yes task batches file entries) (cc is)
    by (Some k) is = cc is

  poll_each-never : (task : PollEachTask) → task.assertions ≡ judging.assertions → Nodes task.nodes ≡ judging.budget →
      Never files text (poll_each.script task)
  poll_each-never task name same =
      read-never task.manifest (refused_manifest task.manifest) manifest_of (λ bytes batches. poll_each.after_manifest task batches) (λ why. tt)
      (λ m batches at_m is_m. read-never task.assertions (refused_assertions task.assertions) assertion_file_of
      (λ bytes file. poll_each.after_assertions task batches file) (λ why. tt)
      (λ a file at_a is_a. covered-never task.nodes file (poll_each.after_cover task batches file)
      (few_there task.assertions (Nodes task.nodes) name same a file at_a is_a)
      (read-never task.seen (refused_seen task.seen) (seen_of batches file.candidates) (λ bytes entries. Ends (poll_each.PollsEach task batches file entries))
      (λ why. tt) (λ v entries at_v is_v. polls_each-never task batches file entries))))

-- ---- each command

judged-is : (files : List File) (own judging : Judging) → Some own ≡ Some judging → AreEnough files judging → AreEnough files own
judged-is files own judging is enough = subst (AreEnough files) (sym (some_is is)) enough

script-never : (files : List File) (command : Command) (judging : Judging) (text : List ℕ) → judging_of command ≡ Some judging → AreEnough files judging →
    Concludes (AsHeld files) (script_of command) (Answered Spent text) → ⊥
script-never files (Check task) judging text is enough =
    let own : Judging = record { assertions = task.assertions; budget = task.budget } in
    check-never files own (judged-is files own judging is enough) text task refl refl
script-never files (Trim task) judging text is enough =
    let own : Judging = record { assertions = task.assertions; budget = task.budget } in
    trim-never files own (judged-is files own judging is enough) text task refl refl
script-never files (Open task) judging text is enough =
    let own : Judging = record { assertions = task.assertions; budget = task.budget } in
    open-never files own (judged-is files own judging is enough) text task refl refl
script-never files (Audit task) judging text is enough =
    let own : Judging = record { assertions = task.assertions; budget = task.budget } in
    audit-never files own (judged-is files own judging is enough) text task refl refl
script-never files (Poll task) judging text is enough =
    let own : Judging = record { assertions = task.assertions; budget = Nodes task.nodes } in
    poll-never files own (judged-is files own judging is enough) text task refl refl
script-never files (PollEach task) judging text is enough =
    let own : Judging = record { assertions = task.assertions; budget = Nodes task.nodes } in
    poll_each-never files own (judged-is files own judging is enough) text task refl refl
script-never files _ judging text is enough = absurd (cc is)

pub never_spent : (words : List (List ℕ)) (files : List File) (command : Command) (judging : Judging) → command_of words ≡ Some command →
    judging_of command ≡ Some judging → AreEnough files judging →
    HasAnswer (asked words) files Spent → ⊥
never_spent words files command judging line is enough (text, comes) =
    script-never files command judging text is enough (subst (λ c. ComesTo (AsHeld files) (asked_by c) (Answered Spent text)) line comes)
