-- Statuses 0 and 10 of a round of a plurality contest come with the session that its files make, and status 3 with the tie.
use Rattle.std.proofs.Common.{◌≡◌, inr, ℕ, ◌<◌, ◌≤◌, List, [], length, Bool, true, false, Some, Result, Ok, Err, subst}
use Rattle.sha2.specs.Sha256.{sha256}
use Rattle.desk.specs.Desk.{File, held_bytes}
use Rattle.ballots.specs.Ballots.{BallotFile}
use Rattle.manifest.specs.Cards.{Batches, cards_of}
use Rattle.manifest.specs.Linked.{linked_of}
use Rattle.seen_file.specs.Reading.{seen_of}
use Rattle.seen_file.specs.Seen.{Entry}
use Rattle.session_state.specs.Content.{Content}
use Rattle.session_state.specs.Inputs.{HasFacts, has_facts}
use Rattle.session_state.specs.Sessions.{is_signed_off}
use Rattle.session_state.proofs.Facts.{facts_are}
use Rattle.session_file.specs.Reading.{session_of}
use Rattle.session_file.specs.Text.{session_text}
use Rattle.audit_session.specs.Refusals.{last_draws}
use Rattle.plurality.specs.Plural.{Outcome, values_of}
use Rattle.cli_base.specs.Confirmed.{confirmed_kind}
use Rattle.cli_base.specs.Outcome.{Verdict, Answered, Refused}
use Rattle.cli_base.specs.Script.{Readings, AsHeld, Bytes, Concludes, ComesTo, limit}
use Rattle.cli_base.specs.declared.outcome.AnswerKind.{AnswerKind}
use Rattle.cli_base.specs.declared.outcome.AnswerKind.TheVariants.{Tie as TieKind}
use Rattle.command.specs.declared.audit_plurality.AuditPluralityTask.{AuditPluralityTask}
use Rattle.input_files.proofs.Going.{OnlyRefuses}
use Rattle.session_rounds.specs.Refusals.{other_digest}
use Rattle.session_rounds.specs.Rounds.{Compared, kind_of, next_session, same_ballots, same_manifest, session_to_go_on, verdict_of}
use Rattle.session_rounds.proofs.OneRound.{ballots-only, manifest-only, next-only}
use Rattle.plurality_commands.specs.AuditPlurality.{after_ballots, after_count, after_manifest, after_session, plural_session}
use Rattle.plurality_commands.specs.Outcome.{outcome_in}
use Rattle.plurality_commands.proofs.Audits.{plural-only}
use Rattle.command_line.specs.declared.commands.Command.TheVariants.{AuditPlurality}
use Rattle.raire_cli.specs.Asks.{Asks}
use Rattle.raire_cli.specs.Answers.{asked, asked_by}
use Rattle.raire_cli.specs.Pluralities.{Counted, PluralGoesOn, claims, recorded}
use Rattle.raire_cli.specs.RoundFiles.{RoundInputs}
use Rattle.raire_cli.specs.PluralityTies.{TellsPluralityTie}
use Rattle.raire_cli.proofs.Audited.{IsKind}
use Rattle.raire_cli.proofs.Counting.{plural_fitting, tied_in, tied_on, wins_of, won_on}
use Rattle.raire_cli.proofs.NextRounds.{next_of, next_round, said_ballots, said_manifest, said_session}
use Rattle.raire_cli.proofs.Said.{held_whole, short_of, then_ok, unless_ok, value_of}
use Rattle.raire_cli.proofs.Unrefused.{round_on, same_digest}

-- ---- what the files say

module _ (task : AuditPluralityTask) where
  said_plural : (bytes : List ℕ) (session : Content) → plural_session task bytes ≡ Ok session →
      (session_of bytes ≡ Some session) × (last_draws session.session.rounds < task.draws) × (session.digests.assertions ≡ sha256 [])
  said_plural bytes session is =
      let (read, first, rest) = then_ok (session_to_go_on task.session task.draws bytes) _ session is in
      let (digest, ok) = unless_ok (other_digest task.session read.digests.assertions []) _ session rest in
      let same : read ≡ session = cc ok in
      let (says, more) = said_session task.session task.draws bytes read first in (
        subst (λ content. session_of bytes ≡ Some content) same says,
        subst (λ (content : Content). last_draws content.session.rounds < task.draws) same more,
        subst (λ (content : Content). content.digests.assertions ≡ sha256 []) same (same_digest task.session read.digests.assertions [] digest),
      )

-- ---- the files, in order

module _ (words : List (List ℕ)) (files : List File) (asks : Asks AuditPlurality words) (kind : AnswerKind) (text : List ℕ) where
  abbrev readings : Readings
  readings = AsHeld files

  abbrev verdict : Verdict
  verdict = Answered kind text

  abbrev task : AuditPluralityTask
  task = asks.task

  -- the session, its ballots and its manifest were read, and nothing was wrong with them
  pub record Read : Type 0 where
    pub s : List ℕ
    pub held_s : held_bytes task.session files ≡ Some s
    pub session : Content
    pub is_s : plural_session task s ≡ Ok session
    pub b : List ℕ
    pub held_b : held_bytes task.ballots files ≡ Some b
    pub short_b : length b ≤ limit
    pub ballots : BallotFile
    pub is_b : same_ballots task.ballots session b ≡ Ok ballots
    pub m : List ℕ
    pub held_m : held_bytes task.manifest files ≡ Some m
    pub batches : Batches
    pub is_m : same_manifest task.ballots task.manifest session ballots m ≡ Ok batches
    pub rest : Concludes readings (after_manifest task session ballots batches) verdict

  whole : (name bytes : List ℕ) → AsHeld files name (Bytes bytes) → held_bytes name files ≡ Some bytes
  whole name bytes there = held_whole (held_bytes name files) bytes there

  module _ (s : List ℕ) (held_s : held_bytes task.session files ≡ Some s) (session : Content) (is_s : plural_session task s ≡ Ok session) where
    from_ballots : (b : List ℕ) → held_bytes task.ballots files ≡ Some b → length b ≤ limit → (ballots : BallotFile) →
        same_ballots task.ballots session b ≡ Ok ballots →
        Concludes readings (after_ballots task session ballots) verdict → Read
    from_ballots b held_b short ballots is_b (m, there, rest) =
        let (batches, is, on) = value_of readings (same_manifest task.ballots task.manifest session ballots m) (after_manifest task session ballots) kind text
        (manifest-only task.ballots task.manifest session ballots m) rest in
        record {
          s = s;
          held_s = held_s;
          session = session;
          is_s = is_s;
          b = b;
          held_b = held_b;
          short_b = short;
          ballots = ballots;
          is_b = is_b;
          m = m;
          held_m = whole task.manifest m there;
          batches = batches;
          is_m = is;
          rest = on;
        }

    from_session : Concludes readings (after_session task session) verdict → Read
    from_session (b, there, rest) =
        let (ballots, is, on) = value_of readings (same_ballots task.ballots session b) (after_ballots task session) kind text
        (ballots-only task.ballots session b) rest in
        from_ballots b (whole task.ballots b there) (short_of (held_bytes task.ballots files) b there) ballots is on

  read_all : ComesTo (AsHeld files) (asked words) verdict → Read
  read_all comes =
      let (s, there, rest) = subst (λ command. ComesTo readings (asked_by command) verdict) asks.asked comes in
      let (session, is, on) = value_of readings (plural_session task s) (after_session task) kind text (plural-only task s) rest in
      from_session s (whole task.session s there) session is on

  -- ---- the session continues

  module _ (of : IsKind kind) where
    -- the session that the words name continues, and this prints it
    abbrev Gone : Type 0
    Gone = (next : Content) × PluralGoesOn words files next × (text ≡ session_text next) × (kind ≡ kind_of next.session)

    abbrev compared_of : RoundInputs Counted → Compared
    compared_of inputs = record { recorded = recorded inputs; entries = inputs.entries }

    abbrev round_of : RoundInputs Counted → Result Content Verdict
    round_of inputs = next_session task.session task.seen task.draws inputs.session (values_of inputs.basis.outcome) (compared_of inputs)

    gone : (read : Read) (outcome : Outcome) → outcome_in read.ballots ≡ Ok outcome →
        HasFacts read.session (length (cards_of read.batches)) read.ballots.contest outcome.margins → (v : List ℕ) →
        held_bytes task.seen files ≡ Some v → (entries : List Entry) → seen_of read.batches read.ballots.candidates v ≡ Ok entries →
        verdict ≡ verdict_of (round_of (record {
          session = read.session;
          basis = record { ballots = read.ballots; batches = read.batches; outcome = outcome };
          entries = entries;
        })) → Gone
    gone read outcome won facts v held_v entries is_v ends =
        let inputs : RoundInputs Counted = record {
          session = read.session;
          basis = record { ballots = read.ballots; batches = read.batches; outcome = outcome };
          entries = entries;
        } in
        let (says, more, digest_a) = said_plural task read.s read.session read.is_s in
        let (digest_b, ballots) = said_ballots task.ballots read.session read.b read.ballots read.is_b in
        let (digest_m, manifest, placed) = said_manifest task.ballots task.manifest read.session read.ballots read.m read.batches read.is_m in
        let (next, ok, kind-is, text-is) = next_of (round_of inputs) kind text
        (next-only task.session task.seen task.draws inputs.session (values_of outcome) (compared_of inputs)) ends in (
          next,
          record {
            asks = asks;
            bytes = record { session = read.s; basis = record { ballots = read.b; manifest = read.m }; seen = v };
            held = record { session = read.held_s; basis = record { held_ballots = read.held_b; held_manifest = read.held_m }; seen = held_v };
            inputs = inputs;
            say = record {
              session = says;
              basis =
                  record { ballots = ballots; manifest = manifest; placed = placed; wins = wins_of read.ballots outcome won; outcome = won };
              seen = is_v;
            };
            of_files = record { digests_are = record { ballots = digest_b; manifest = digest_m; assertions = digest_a }; facts = facts };
            is_next = next_round inputs.session (recorded inputs) inputs.entries (values_of outcome) (claims inputs)
                (plural_fitting inputs read.s says won facts) task.session task.seen task.draws next more ok;
          },
          text-is,
          kind-is,
        )

    from_count : (read : Read) (outcome : Outcome) → outcome_in read.ballots ≡ Ok outcome →
        Concludes readings (after_count task read.session read.ballots read.batches outcome) verdict → Gone
    from_count read outcome won comes =
        let (agrees, seen) = round_on files task.session task.seen task.draws
        (has_facts read.session (length (cards_of read.batches)) read.ballots.contest outcome.margins) read.session (values_of outcome) read.batches
        (linked_of read.batches read.ballots) read.ballots.candidates kind text comes in
        gone read outcome won (facts_are read.session (length (cards_of read.batches)) read.ballots.contest outcome.margins agrees) seen.bytes seen.held
        seen.value seen.is seen.rest

    pub plural_goes_on : ComesTo (AsHeld files) (asked words) verdict → Gone
    plural_goes_on comes =
        let read = read_all comes in
        let (outcome, won, on) = won_on readings read.ballots (after_count task read.session read.ballots read.batches) text kind of read.rest in
        from_count read outcome won on

-- ---- a tie

module _ (words : List (List ℕ)) (files : List File) (asks : Asks AuditPlurality words) (text : List ℕ) where
  -- a round prints no tie
  session_tells_none : (signed : Bool) → TieKind ≡ confirmed_kind signed → ⊥
  session_tells_none true is = cc is
  session_tells_none false is = cc is

  round_tells_none : (judged : Result Content Verdict) → OnlyRefuses judged → Answered TieKind text ≡ verdict_of judged → ⊥
  round_tells_none (Ok next) only is = session_tells_none (is_signed_off next.session) (cc is)
  round_tells_none (Err (Refused name t)) only is = cc is
  round_tells_none (Err (Answered kind t)) only is = absurd only

  count_tells_none : (session : Content) (ballots : BallotFile) (batches : Batches) (outcome : Outcome) →
      Concludes (AsHeld files) (after_count asks.task session ballots batches outcome) (Answered TieKind text) → ⊥
  count_tells_none session ballots batches outcome comes =
      let task = asks.task in
      let (agrees, seen) = round_on files task.session task.seen task.draws (has_facts session (length (cards_of batches)) ballots.contest outcome.margins) session
      (values_of outcome) batches (linked_of batches ballots) ballots.candidates TieKind text comes in
      let compared : Compared = record { recorded = linked_of batches ballots; entries = seen.value } in
      round_tells_none (next_session task.session task.seen task.draws session (values_of outcome) compared)
      (next-only task.session task.seen task.draws session (values_of outcome) compared) seen.rest

  pub round_tie : ComesTo (AsHeld files) (asked words) (Answered TieKind text) → TellsPluralityTie words files text
  round_tie comes =
      let task = asks.task in
      let read = read_all words files asks TieKind text comes in
      let (says, more, digest) = said_plural task read.s read.session read.is_s in
      let (digest_b, ballots) = said_ballots task.ballots read.session read.b read.ballots read.is_b in
      let (tie, is, shown) = tied_on (AsHeld files) read.ballots (after_count task read.session read.ballots read.batches) text
      (count_tells_none read.session read.ballots read.batches) read.rest in
      record {
        ballots = read.ballots;
        asks = inr (record {
          asks = asks;
          bytes = read.s;
          held = read.held_s;
          session = read.session;
          said = says;
          are = record { bytes = read.b; held = read.held_b; is_short = read.short_b; is = ballots };
        });
        tie = tie;
        tied = tied_in read.b (Some read.session.contest) read.ballots tie ballots is;
        shown = shown;
      }
