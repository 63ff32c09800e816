-- Status 0 of `open` comes with the session that its words and files make.
use Rattle.std.proofs.Common.{◌≡◌, inl, ℕ, List, length, Bool, true, false, Some, Ok, MatchBool, refl, subst}
use Rattle.sha2.specs.Sha256.{sha256}
use Rattle.desk.specs.Desk.{File, held_bytes}
use Rattle.ballots.specs.Ballots.{BallotFile}
use Rattle.ballots.specs.Grammar.{ballots_of}
use Rattle.manifest.specs.Cards.{Batches, cards_of}
use Rattle.assertion_file.specs.Content.{Content as FileContent}
use Rattle.assertion_file.specs.Reading.{assertion_file_of}
use Rattle.assertion_file.proofs.SoundFiles.{read_is_sound}
use Rattle.cover_checker.specs.declared.checked.Checked.TheVariants.{Accepted}
use Rattle.cover_checker.specs.Holds.{Holds}
use Rattle.cover_checker.proofs.Held.{accepted_iff_holds}
use Rattle.session_state.specs.Content.{Content, begun}
use Rattle.session_state.specs.declared.digests.Digests.{Digests}
use Rattle.session_file.specs.Text.{session_text}
use Rattle.cli_base.specs.Outcome.{Answered}
use Rattle.cli_base.specs.Script.{Script, Ends, AsHeld, Concludes, ComesTo}
use Rattle.cli_base.specs.declared.outcome.AnswerKind.TheVariants.{Done}
use Rattle.command.specs.declared.open.OpenTask.{OpenTask}
use Rattle.check_command.specs.Check.{Checks}
use Rattle.input_files.specs.Cards.{cards_for}
use Rattle.input_files.specs.Refusals.{refused_assertions, refused_ballots}
use Rattle.input_files.proofs.Going.{cards-only}
use Rattle.session_commands.specs.Accepted.{is_accepted}
use Rattle.session_commands.specs.Open.{Opens as EndsSo, all_digests, after_ballots, after_manifest, opened}
use Rattle.session_commands.proofs.Acceptance.{decided}
use Rattle.command_line.specs.declared.commands.Command.TheVariants.{Open}
use Rattle.raire_cli.specs.Asks.{Asks}
use Rattle.raire_cli.specs.Answers.{asked, asked_by}
use Rattle.raire_cli.specs.Basis.{AreHeld, Basis, FileBytes, digests_of}
use Rattle.raire_cli.specs.Openings.{Opens, names_of}
use Rattle.raire_cli.proofs.Audited.{not_checked}
use Rattle.raire_cli.proofs.Said.{held_whole, said, said_cards, value_of}

-- a check accepts the file, since `yes` by itself isn't a session
said_opened : (task : OpenTask) (ballots : BallotFile) (batches : Batches) (file : FileContent) (digests : Digests) (text : List ℕ) →
    EndsSo task ballots batches file digests (Answered Done text) → (is_accepted task.budget ballots file ≡ true)
    × (Answered Done text ≡ opened task batches file digests)
said_opened task ballots batches file digests text ends = by (is_accepted task.budget ballots file) refl ends where
  by : (b : Bool) → is_accepted task.budget ballots file ≡ b → MatchBool b (Answered Done text ≡ opened task batches file digests)
      (Checks task.budget ballots file (Answered Done text)) →
      (is_accepted task.budget ballots file ≡ true) × (Answered Done text ≡ opened task batches file digests)
  by true accepted is = (accepted, is)
  by false out checks = absurd (not_checked task.budget ballots file Done text (inl refl) out checks)

module _ (words : List (List ℕ)) (files : List File) (asks : Asks Open words) (text : List ℕ) where
  -- the words open a session, and this prints it
  abbrev IsOpen : Type 0
  IsOpen = (session : Content) × Opens words files session × (text ≡ session_text session)

  abbrev task : OpenTask
  task = asks.task

  -- all files are read, and nothing was wrong with them
  all_read : (bytes : FileBytes) → AreHeld (names_of task) files bytes → (basis : Basis) → ballots_of bytes.ballots task.contest ≡ Ok basis.ballots →
      cards_for task.ballots basis.ballots task.manifest bytes.manifest ≡ Ok basis.batches → assertion_file_of bytes.assertions ≡ Ok basis.file →
      EndsSo task basis.ballots basis.batches basis.file (digests_of bytes) (Answered Done text) → IsOpen
  all_read bytes held basis ballots cards assertions ends =
      let (manifest, placed) = said_cards task.ballots basis.ballots task.manifest bytes.manifest basis.batches cards in
      let (accepted, is) = said_opened task basis.ballots basis.batches basis.file (digests_of bytes) text ends in
      let found = (decided task.budget basis.ballots basis.file).0 accepted in
      let holds : Holds basis.ballots basis.file =
      (accepted_iff_holds task.budget basis.ballots basis.file Accepted (read_is_sound bytes.assertions basis.file assertions) found).0 refl in (
        begun basis.file.contest (length (cards_of basis.batches)) basis.file task.seed task.limit task.gamma (digests_of bytes),
        record {
          asks = asks;
          bytes = bytes;
          held = held;
          basis = basis;
          say = record { ballots = ballots; manifest = manifest; assertions = assertions };
          together = record { placed = placed; holds = holds };
          is = refl;
        },
        cc is,
      )

  module _ (b : List ℕ) (held_b : held_bytes task.ballots files ≡ Some b) (ballots : BallotFile) (is_b : ballots_of b task.contest ≡ Ok ballots) where
    from_manifest : (m : List ℕ) → held_bytes task.manifest files ≡ Some m → (batches : Batches) →
        cards_for task.ballots ballots task.manifest m ≡ Ok batches →
        Concludes (AsHeld files) (after_manifest task ballots batches (record { ballots = sha256 b; manifest = sha256 m })) (Answered Done text) → IsOpen
    from_manifest m held_m batches is_m comes =
        let next : List ℕ → FileContent → Script =
        λ a file. Ends (EndsSo task ballots batches file (all_digests (record { ballots = sha256 b; manifest = sha256 m }) a)) in
        let is = said files task.assertions (refused_assertions task.assertions) assertion_file_of next Done text (λ why. tt) comes in
        all_read (record { ballots = b; manifest = m; assertions = is.bytes })
        (record { ballots = held_b; manifest = held_m; assertions = is.held })
        (record { ballots = ballots; batches = batches; file = is.value }) is_b is_m is.is is.rest

    from_ballots : Concludes (AsHeld files) (after_ballots task ballots (sha256 b)) (Answered Done text) → IsOpen
    from_ballots (m, there, rest) =
        let (batches, is, on) = value_of (AsHeld files) (cards_for task.ballots ballots task.manifest m)
        (λ batches. after_manifest task ballots batches (record { ballots = sha256 b; manifest = sha256 m })) Done text
        (cards-only task.ballots ballots task.manifest m) rest in
        from_manifest m (held_whole (held_bytes task.manifest files) m there) batches is on

  pub is_opened : ComesTo (AsHeld files) (asked words) (Answered Done text) → IsOpen
  is_opened comes =
      let next : List ℕ → BallotFile → Script = λ b ballots. after_ballots task ballots (sha256 b) in
      let is = said files task.ballots (refused_ballots task.ballots) (λ bytes. ballots_of bytes task.contest) next Done text (λ why. tt)
      (subst (λ command. ComesTo (AsHeld files) (asked_by command) (Answered Done text)) asks.asked comes) in
      from_ballots is.bytes is.held is.value is.is is.rest
