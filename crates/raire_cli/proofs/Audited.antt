-- Statuses 0 and 10 of an audit come with the session that its files make.
use Rattle.std.proofs.Common.{◌≡◌, ◌⊎◌, inl, inr, ℕ, List, Contains, length, Bool, true, false, Some, Result, Ok, refl, sym, ap, subst, ◌∙◌}
use Rattle.std.proofs.lemmas.List.{length-map}
use Rattle.sha2.specs.Sha256.{sha256}
use Rattle.desk.specs.Desk.{File, held_bytes}
use Rattle.assertions.specs.Assorter.{assorter_value}
use Rattle.budget.specs.declared.budget.Budget.{Budget}
use Rattle.ballots.specs.Ballots.{BallotFile}
use Rattle.manifest.specs.Cards.{Batches, cards_of}
use Rattle.manifest.specs.Linked.{linked_of, recorded_of}
use Rattle.assertion_file.specs.Content.{Content as FileContent, margins_of}
use Rattle.assertion_file.specs.Reading.{assertion_file_of}
use Rattle.assertion_file.proofs.SoundFiles.{read_is_sound}
use Rattle.cover_checker.specs.Checks.{IsAnswer}
use Rattle.cover_checker.specs.declared.checked.Checked.TheVariants.{Accepted}
use Rattle.cover_checker.proofs.Held.{accepted_iff_holds}
use Rattle.seen_file.specs.Reading.{seen_of}
use Rattle.seen_file.specs.Seen.{Entry}
use Rattle.session_state.specs.Claims.{audited_by, values_of}
use Rattle.session_state.specs.Content.{Content}
use Rattle.session_state.specs.Inputs.{HasFacts, has_facts}
use Rattle.session_state.proofs.Claims.{audited-file, file-assorters}
use Rattle.session_state.proofs.Facts.{facts_are}
use Rattle.session_file.specs.Reading.{session_of}
use Rattle.session_file.specs.Text.{session_text}
use Rattle.session_file.proofs.SoundFiles.{read_is_sound as read_session_is_sound}
use Rattle.cli_base.specs.Outcome.{Verdict, Answered}
use Rattle.cli_base.specs.Script.{Script, Ends, Bytes, Readings, AsHeld, Concludes, ComesTo}
use Rattle.cli_base.specs.declared.outcome.AnswerKind.{AnswerKind}
use Rattle.cli_base.specs.declared.outcome.AnswerKind.TheVariants.{Done, Unconfirmed}
use Rattle.cli_base.proofs.AmongKinds.{not_among}
use Rattle.command.specs.declared.audit.AuditTask.{AuditTask}
use Rattle.check_command.specs.Check.{Checks, kinds, verdict_on}
use Rattle.check_command.proofs.Checks.{answer-kind}
use Rattle.input_files.specs.Refusals.{refused_assertions}
use Rattle.session_commands.specs.Accepted.{if_accepted, is_accepted, on_if}
use Rattle.session_commands.specs.Audit.{after_assertions, after_ballots, after_check, after_manifest, after_session, same_assertions, script}
use Rattle.session_rounds.specs.Refusals.{other_digest}
use Rattle.session_rounds.specs.Rounds.{Compared, kind_of, next_session, same_ballots, same_manifest, session_to_go_on, verdict_of}
use Rattle.session_commands.proofs.Acceptance.{decided}
use Rattle.session_commands.proofs.Audits.{assertions-only}
use Rattle.session_rounds.proofs.OneRound.{ballots-only, manifest-only, next-only, session-only}
use Rattle.command_line.specs.declared.commands.Command.TheVariants.{Audit}
use Rattle.raire_cli.specs.Asks.{Asks}
use Rattle.raire_cli.specs.Answers.{asked, asked_by}
use Rattle.raire_cli.specs.Audits.{GoesOn, claims, names_of, recorded}
use Rattle.raire_cli.specs.Basis.{AreHeld, Basis, FileBytes}
use Rattle.raire_cli.specs.RoundFiles.{AreRoundFiles, RoundBytes, RoundInputs}
use Rattle.raire_cli.proofs.Accepted.{accepted_answer}
use Rattle.raire_cli.proofs.NextRounds.{Fitting, next_of, next_round, said_ballots, said_manifest, said_session}
use Rattle.raire_cli.proofs.Said.{held_whole, told_ok, unless_ok, value_of}
use Rattle.raire_cli.proofs.Unrefused.{round_on, same_digest}

-- an audit that was answered, or isn't signed off yet
abbrev pub IsKind : AnswerKind → Type 0
IsKind kind = (kind ≡ Done) ⊎ (kind ≡ Unconfirmed)

-- ---- the assertion file was accepted

-- a check by itself answers `yes`, which isn't a session
pub not_checked : (budget : Budget) (ballots : BallotFile) (file : FileContent) (kind : AnswerKind) (text : List ℕ) → IsKind kind →
    is_accepted budget ballots file ≡ false → Checks budget ballots file (Answered kind text) → ⊥
not_checked budget ballots file kind text (inl done) out (answer, found, is) =
    let holds = accepted_answer file answer text (subst (λ k. verdict_on file answer ≡ Some (Answered k text)) done is) in
    let accepted : is_accepted budget ballots file ≡ true = (decided budget ballots file).1 (subst (λ a. IsAnswer budget ballots file a) holds found) in
    cc (out, accepted)
not_checked budget ballots file kind text (inr unconfirmed) out (answer, found, is) =
    not_among kinds Unconfirmed refl (subst (Contains kinds) unconfirmed (answer-kind file answer (Answered kind text) is))

accepted_on : (readings : Readings) (budget : Budget) (ballots : BallotFile) (file : FileContent) (next : Script) (kind : AnswerKind) (text : List ℕ) → IsKind kind →
    Concludes readings (if_accepted budget ballots file next) (Answered kind text) → (is_accepted budget ballots file ≡ true)
    × Concludes readings next (Answered kind text)
accepted_on readings budget ballots file next kind text of comes = by (is_accepted budget ballots file) refl comes where
  by : (b : Bool) → is_accepted budget ballots file ≡ b → Concludes readings (on_if b next (Ends (Checks budget ballots file))) (Answered kind text) →
      (is_accepted budget ballots file ≡ true) × Concludes readings next (Answered kind text)
  by true accepted comes = (accepted, comes)
  by false out comes = absurd (not_checked budget ballots file kind text of out comes)

-- ---- the session continues

module _ (inputs : RoundInputs Basis) (bytes : List ℕ) (read : session_of bytes ≡ Some inputs.session)
    (facts : HasFacts inputs.session (length (cards_of inputs.basis.batches)) inputs.basis.file.contest (margins_of inputs.basis.file)) where
  -- the session fits the claims of the file and what is recorded for the cards
  pub fitting : Fitting inputs.session (recorded inputs) (values_of inputs.basis.file) (claims inputs)
  fitting = record {
    sound = (read_session_is_sound bytes inputs.session read).0;
    same_cards = facts.cards_are ∙ sym (length-map (cards_of inputs.basis.batches) (recorded_of inputs.basis.ballots));
    each = ap length facts.margins_are ∙ length-map inputs.basis.file.claims (λ claim. claim.margin)
        ∙ sym (length-map inputs.basis.file.claims (λ claim. assorter_value claim.assertion));
    assorters = file-assorters inputs.basis.file;
    same_claims = ap (audited_by (values_of inputs.basis.file)) facts.margins_are ∙ audited-file inputs.basis.file;
  }

-- ---- what the files say

module _ (task : AuditTask) where
  said_assertions : (session : Content) (bytes : List ℕ) (file : FileContent) → same_assertions task session bytes ≡ Ok file →
      (session.digests.assertions ≡ sha256 bytes) × (assertion_file_of bytes ≡ Ok file)
  said_assertions session bytes file is =
      let (digest, read) = unless_ok (other_digest task.assertions session.digests.assertions bytes) _ file is in
      (same_digest task.assertions session.digests.assertions bytes digest, told_ok (refused_assertions task.assertions) (assertion_file_of bytes) file read)

-- ---- the files, in order

module _ (words : List (List ℕ)) (files : List File) (asks : Asks Audit words) (kind : AnswerKind) (text : List ℕ) (of : IsKind kind) where
  abbrev readings : Readings
  readings = AsHeld files

  abbrev verdict : Verdict
  verdict = Answered kind text

  abbrev task : AuditTask
  task = asks.task

  -- the session that the words name continues, and this prints it
  abbrev Gone : Type 0
  Gone = (next : Content) × GoesOn words files next × (text ≡ session_text next) × (kind ≡ kind_of next.session)

  whole : (name bytes : List ℕ) → AsHeld files name (Bytes bytes) → held_bytes name files ≡ Some bytes
  whole name bytes there = held_whole (held_bytes name files) bytes there

  abbrev compared_of : RoundInputs Basis → Compared
  compared_of inputs = record { recorded = recorded inputs; entries = inputs.entries }

  abbrev round_of : RoundInputs Basis → Result Content Verdict
  round_of inputs = next_session task.session task.seen task.draws inputs.session (values_of inputs.basis.file) (compared_of inputs)

  -- all files are read, and nothing was wrong with them
  gone : (bytes : RoundBytes FileBytes) → AreRoundFiles task.session task.seen (AreHeld (names_of task)) files bytes → (inputs : RoundInputs Basis) →
      session_to_go_on task.session task.draws bytes.session ≡ Ok inputs.session →
      same_ballots task.ballots inputs.session bytes.basis.ballots ≡ Ok inputs.basis.ballots →
      same_manifest task.ballots task.manifest inputs.session inputs.basis.ballots bytes.basis.manifest ≡ Ok inputs.basis.batches →
      same_assertions task inputs.session bytes.basis.assertions ≡ Ok inputs.basis.file → is_accepted task.budget inputs.basis.ballots inputs.basis.file ≡ true →
      HasFacts inputs.session (length (cards_of inputs.basis.batches)) inputs.basis.file.contest (margins_of inputs.basis.file) → seen_of inputs.basis.batches inputs.basis.file.candidates bytes.seen
      ≡ Ok inputs.entries →
      verdict ≡ verdict_of (round_of inputs) → Gone
  gone bytes held inputs is_s is_b is_m is_a accepted facts is_v ends =
      let (read, more) = said_session task.session task.draws bytes.session inputs.session is_s in
      let (digest_b, ballots) = said_ballots task.ballots inputs.session bytes.basis.ballots inputs.basis.ballots is_b in
      let (digest_m, manifest, placed) = said_manifest task.ballots task.manifest inputs.session inputs.basis.ballots bytes.basis.manifest
      inputs.basis.batches is_m in
      let (digest_a, assertions) = said_assertions task inputs.session bytes.basis.assertions inputs.basis.file is_a in
      let sound = read_is_sound bytes.basis.assertions inputs.basis.file assertions in
      let found = (decided task.budget inputs.basis.ballots inputs.basis.file).0 accepted in
      let (next, ok, kind-is, text-is) = next_of (round_of inputs) kind text
      (next-only task.session task.seen task.draws inputs.session (values_of inputs.basis.file) (compared_of inputs)) ends in (
        next,
        record {
          asks = asks;
          bytes = bytes;
          held = held;
          inputs = inputs;
          say = record { session = read; basis = record { ballots = ballots; manifest = manifest; assertions = assertions }; seen = is_v };
          of_files = record { digests_are = record { ballots = digest_b; manifest = digest_m; assertions = digest_a }; facts = facts };
          together = record { placed = placed; holds = (accepted_iff_holds task.budget inputs.basis.ballots inputs.basis.file Accepted sound found).0 refl };
          is_next = next_round inputs.session (recorded inputs) inputs.entries (values_of inputs.basis.file) (claims inputs)
              (fitting inputs bytes.session read facts) task.session task.seen task.draws next more ok;
        },
        text-is,
        kind-is,
      )

  module _ (s : List ℕ) (held_s : held_bytes task.session files ≡ Some s) (session : Content) (is_s : session_to_go_on task.session task.draws s ≡ Ok session) where
    module _ (b : List ℕ) (held_b : held_bytes task.ballots files ≡ Some b) (ballots : BallotFile) (is_b : same_ballots task.ballots session b ≡ Ok ballots) where
      module _ (m : List ℕ) (held_m : held_bytes task.manifest files ≡ Some m) (batches : Batches)
          (is_m : same_manifest task.ballots task.manifest session ballots m ≡ Ok batches) where
        module _ (a : List ℕ) (held_a : held_bytes task.assertions files ≡ Some a) (file : FileContent) (is_a : same_assertions task session a ≡ Ok file)
            (accepted : is_accepted task.budget ballots file ≡ true) where
          from_seen : HasFacts session (length (cards_of batches)) file.contest (margins_of file) → (v : List ℕ) → held_bytes task.seen files ≡ Some v → (entries : List Entry) →
              seen_of batches file.candidates v ≡ Ok entries →
              verdict ≡ verdict_of (next_session task.session task.seen task.draws session (values_of file) (record { recorded = linked_of batches ballots; entries = entries })) → Gone
          from_seen facts v held_v entries is_v ends =
              gone (record { session = s; basis = record { ballots = b; manifest = m; assertions = a }; seen = v })
              (record { session = held_s; basis = record { ballots = held_b; manifest = held_m; assertions = held_a }; seen = held_v })
              (record { session = session; basis = record { ballots = ballots; batches = batches; file = file }; entries = entries }) is_s is_b is_m is_a
              accepted facts is_v ends

          from_check : Concludes readings (after_check task session ballots batches file) verdict → Gone
          from_check comes =
              let (agrees, seen) = round_on files task.session task.seen task.draws (has_facts session (length (cards_of batches)) file.contest (margins_of file)) session
              (values_of file) batches (linked_of batches ballots) file.candidates kind text comes in
              from_seen (facts_are session (length (cards_of batches)) file.contest (margins_of file) agrees) seen.bytes seen.held seen.value seen.is seen.rest

        from_assertions : (a : List ℕ) → held_bytes task.assertions files ≡ Some a → (file : FileContent) → same_assertions task session a ≡ Ok file →
            Concludes readings (after_assertions task session ballots batches file) verdict → Gone
        from_assertions a held_a file is_a comes =
            let (accepted, on) = accepted_on readings task.budget ballots file (after_check task session ballots batches file) kind text of comes in
            from_check a held_a file is_a accepted on

        from_manifest : Concludes readings (after_manifest task session ballots batches) verdict → Gone
        from_manifest (a, there, rest) =
            let (file, is, on) = value_of readings (same_assertions task session a) (after_assertions task session ballots batches) kind text
            (assertions-only task session a) rest in
            from_assertions a (whole task.assertions a there) file is on

      from_ballots : Concludes readings (after_ballots task session ballots) verdict → Gone
      from_ballots (m, there, rest) =
          let (batches, is, on) = value_of readings (same_manifest task.ballots task.manifest session ballots m) (after_manifest task session ballots) kind text
          (manifest-only task.ballots task.manifest session ballots m) rest in
          from_manifest m (whole task.manifest m there) batches is on

    from_session : Concludes readings (after_session task session) verdict → Gone
    from_session (b, there, rest) =
        let (ballots, is, on) = value_of readings (same_ballots task.ballots session b) (after_ballots task session) kind text (ballots-only task.ballots session b)
        rest in
        from_ballots b (whole task.ballots b there) ballots is on

  from_all : Concludes readings (script task) verdict → Gone
  from_all (s, there, rest) =
      let (session, is, on) = value_of readings (session_to_go_on task.session task.draws s) (after_session task) kind text (session-only task.session task.draws s)
      rest in
      from_session s (whole task.session s there) session is on

  pub goes_on : ComesTo (AsHeld files) (asked words) (Answered kind text) → Gone
  goes_on comes = from_all (subst (λ command. ComesTo readings (asked_by command) verdict) asks.asked comes)
