-- If a plurality session is opened, status 0 comes with that session, and status 3 with the tie.
use Rattle.std.proofs.Common.{◌≡◌, inl, ℕ, ◌≤◌, List, length, Some, Result, Ok, Err, refl, subst}
use Rattle.sha2.specs.Sha256.{sha256}
use Rattle.desk.specs.Desk.{File, held_bytes}
use Rattle.ballots.specs.Ballots.{BallotFile}
use Rattle.ballots.specs.Grammar.{ballots_of}
use Rattle.manifest.specs.Cards.{Batches, cards_of}
use Rattle.session_state.specs.Content.{Content, begun_with}
use Rattle.session_state.specs.declared.digests.Digests.{Digests}
use Rattle.session_file.specs.Text.{session_text}
use Rattle.plurality.specs.Plural.{Outcome, Tie}
use Rattle.cli_base.specs.Outcome.{Answered}
use Rattle.cli_base.specs.Script.{Script, AsHeld, Concludes, ComesTo, limit}
use Rattle.cli_base.specs.declared.outcome.AnswerKind.{AnswerKind}
use Rattle.cli_base.specs.declared.outcome.AnswerKind.TheVariants.{Done, Tie as TieKind}
use Rattle.command.specs.declared.open_plurality.OpenPluralityTask.{OpenPluralityTask}
use Rattle.input_files.specs.Cards.{cards_for}
use Rattle.input_files.specs.Refusals.{refused_ballots}
use Rattle.input_files.proofs.Going.{cards-only}
use Rattle.report.specs.Ends.{tie_text}
use Rattle.plurality_commands.specs.OpenPlurality.{after_ballots, digests_of as digests_with, opened, opened_or_tied}
use Rattle.plurality_commands.specs.Outcome.{outcome_in}
use Rattle.command_line.specs.declared.commands.Command.TheVariants.{OpenPlurality}
use Rattle.raire_cli.specs.Asks.{Asks}
use Rattle.raire_cli.specs.Answers.{asked, asked_by}
use Rattle.raire_cli.specs.Pluralities.{OpensPlurality, digests_of}
use Rattle.raire_cli.specs.PluralityTies.{TellsPluralityTie}
use Rattle.raire_cli.proofs.Counting.{tied_in, wins_of}
use Rattle.raire_cli.proofs.Said.{held_whole, said, said_cards, value_of}

-- ---- what it ends with

module _ (task : OpenPluralityTask) (ballots : BallotFile) (batches : Batches) (digests : Digests) (text : List ℕ) where
  won_of : (counted : Result Outcome Tie) → Answered Done text ≡ opened_or_tied task ballots batches digests counted →
      (outcome : Outcome) × (counted ≡ Ok outcome) × (Answered Done text ≡ opened task ballots batches digests outcome)
  won_of (Ok outcome) is = (outcome, refl, is)
  won_of (Err tie) is = absurd (cc is)

  tie_of : (counted : Result Outcome Tie) → Answered TieKind text ≡ opened_or_tied task ballots batches digests counted →
      (tie : Tie) × (counted ≡ Err tie) × (text ≡ tie_text ballots.candidates 1 tie.tied tie.tally)
  tie_of (Ok outcome) is = absurd (cc is)
  tie_of (Err tie) is = (tie, refl, cc is)

-- ---- the files, in order

module _ (words : List (List ℕ)) (files : List File) (asks : Asks OpenPlurality words) (kind : AnswerKind) (text : List ℕ) where
  abbrev task : OpenPluralityTask
  task = asks.task

  -- both files were read, and the call ends with this
  record Read : Type 0 where
    b : List ℕ
    held_b : held_bytes task.ballots files ≡ Some b
    short_b : length b ≤ limit
    ballots : BallotFile
    is_b : ballots_of b task.contest ≡ Ok ballots
    m : List ℕ
    held_m : held_bytes task.manifest files ≡ Some m
    batches : Batches
    is_m : cards_for task.ballots ballots task.manifest m ≡ Ok batches
    ends : Answered kind text ≡ opened_or_tied task ballots batches (digests_with (sha256 b) (sha256 m)) (outcome_in ballots)

  with_manifest : (b : List ℕ) → held_bytes task.ballots files ≡ Some b → length b ≤ limit → (ballots : BallotFile) → ballots_of b task.contest ≡ Ok ballots →
      Concludes (AsHeld files) (after_ballots task ballots (sha256 b)) (Answered kind text) → Read
  with_manifest b held_b short ballots is_b (m, there, rest) =
      let (batches, is, on) = value_of (AsHeld files) (cards_for task.ballots ballots task.manifest m) _ kind text
      (cards-only task.ballots ballots task.manifest m) rest in
      record {
        b = b;
        held_b = held_b;
        short_b = short;
        ballots = ballots;
        is_b = is_b;
        m = m;
        held_m = held_whole (held_bytes task.manifest files) m there;
        batches = batches;
        is_m = is;
        ends = on;
      }

  read_both : ComesTo (AsHeld files) (asked words) (Answered kind text) → Read
  read_both comes =
      let next : List ℕ → BallotFile → Script = λ b ballots. after_ballots task ballots (sha256 b) in
      let is = said files task.ballots (refused_ballots task.ballots) (λ bytes. ballots_of bytes task.contest) next kind text (λ why. tt)
      (subst (λ command. ComesTo (AsHeld files) (asked_by command) (Answered kind text)) asks.asked comes) in
      with_manifest is.bytes is.held is.is_short is.value is.is is.rest

module _ (words : List (List ℕ)) (files : List File) (asks : Asks OpenPlurality words) (text : List ℕ) where
  pub plural_is_opened : ComesTo (AsHeld files) (asked words) (Answered Done text) →
      (session : Content) × OpensPlurality words files session × (text ≡ session_text session)
  plural_is_opened comes =
      let task = asks.task in
      let read = read_both words files asks Done text comes in
      let (outcome, won, is) = won_of task read.ballots read.batches (digests_with (sha256 read.b) (sha256 read.m)) text (outcome_in read.ballots) read.ends in
      let (manifest, placed) = said_cards task.ballots read.ballots task.manifest read.m read.batches read.is_m in (
        begun_with read.ballots.contest (length (cards_of read.batches)) outcome.margins task.seed task.limit task.gamma
            (digests_of (record { ballots = read.b; manifest = read.m })),
        record {
          asks = asks;
          bytes = record { ballots = read.b; manifest = read.m };
          held = record { held_ballots = read.held_b; held_manifest = read.held_m };
          counted = record { ballots = read.ballots; batches = read.batches; outcome = outcome };
          say = record { ballots = read.is_b; manifest = manifest; placed = placed; wins = wins_of read.ballots outcome won; outcome = won };
          is = refl;
        },
        cc is,
      )

  pub opening_tie : ComesTo (AsHeld files) (asked words) (Answered TieKind text) → TellsPluralityTie words files text
  opening_tie comes =
      let task = asks.task in
      let read = read_both words files asks TieKind text comes in
      let (tie, is, shown) = tie_of task read.ballots read.batches (digests_with (sha256 read.b) (sha256 read.m)) text (outcome_in read.ballots) read.ends in
      record {
        ballots = read.ballots;
        asks = inl (record { asks = asks; are = record { bytes = read.b; held = read.held_b; is_short = read.short_b; is = read.is_b } });
        tie = tie;
        tied = tied_in read.b task.contest read.ballots tie read.is_b is;
        shown = shown;
      }
