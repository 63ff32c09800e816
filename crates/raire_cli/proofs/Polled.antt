-- Statuses 0 and 10 of a poll come with the poll of its files.
use Rattle.std.proofs.Common.{◌≡◌, ◌<◌, ◌≤◌, inl, inr, ℕ, zero, suc, Bool, true, List, [], ◌∷◌, map, get_or, All, IsTrue, Option, None, Some, refl, subst, arith}
use Rattle.std.specs.Prelude.{option_map, unwrap_or}
use Rattle.std.specs.List.{list_all}
use Rattle.std.specs.Option.{option_or}
use Rattle.std.proofs.lemmas.Bool.{and_parts}
use Rattle.std.proofs.lemmas.List.Elements.{All-head, All-map, All-tail, All-weaker}
use Rattle.desk.specs.Desk.{File}
use Rattle.sampler.specs.Draws.{drawn_card}
use Rattle.assertions.specs.Assorter.{assorter_value}
use Rattle.assertions.proofs.Sums.{assorter-is}
use Rattle.manifest.specs.Cards.{Batches}
use Rattle.manifest.specs.Manifest.{manifest_of}
use Rattle.assertion_file.specs.Content.{Content, candidate_count}
use Rattle.assertion_file.specs.Reading.{assertion_file_of}
use Rattle.assertion_file.proofs.SoundFiles.{read_is_sound}
use Rattle.cover_checker.specs.Covers.{first_over, standing_order}
use Rattle.cover_checker.specs.Findings.{assertions_of}
use Rattle.seen_file.specs.Reading.{seen_of}
use Rattle.seen_file.specs.Seen.{Entry}
use Rattle.km_risk.specs.Exact.{is_within, millionths_in_one}
use Rattle.km_risk.proofs.Confirmed.{confirmed_law}
use Rattle.assorters.specs.declared.seen.Seen.{Seen}
use Rattle.assorters.specs.Cards.{IsAssorter, seen_value}
use Rattle.assorters.proofs.Comparison.{seen-within}
use Rattle.session_state.specs.Claims.{values_of}
use Rattle.audit_session.specs.Going.{all_seen, seen_at}
use Rattle.audit_session.specs.Refusals.{unseen_draw}
use Rattle.polling.specs.Polls.{is_risk_within, poll_counts, poll_risk}
use Rattle.polling.proofs.ValueCounts.{as-discrepancies}
use Rattle.cli_base.specs.Confirmed.{confirmed_kind}
use Rattle.cli_base.specs.Outcome.{Verdict, Answered, Refused}
use Rattle.cli_base.specs.Script.{Script, Ends, Readings, AsHeld, Concludes, ComesTo}
use Rattle.cli_base.specs.declared.outcome.AnswerKind.{AnswerKind}
use Rattle.cli_base.specs.declared.outcome.AnswerKind.TheVariants.{Done, Unconfirmed}
use Rattle.command.specs.Poll.{IsWithinLimits}
use Rattle.command.specs.declared.poll.PollTask.{PollTask}
use Rattle.command_line.proofs.Checked.{are_checked}
use Rattle.input_files.specs.Refusals.{no_record_text, refused_assertions, refused_manifest, refused_seen}
use Rattle.poll_command.specs.Poll.{Polls, after_assertions, after_cover, after_manifest, answered, if_covered, is_yes, poll_text, spent, standing, uncovered, unless_ended}
use Rattle.poll_command.proofs.Polled.{covering}
use Rattle.command_line.specs.declared.commands.Command.TheVariants.{Poll}
use Rattle.raire_cli.specs.Asks.{Asks}
use Rattle.raire_cli.specs.Answers.{asked, asked_by}
use Rattle.raire_cli.specs.Polls.{IsPollOf, PollInputs, WereAllWithin, cards, drawn, is_confirmed_by, told_of}
use Rattle.raire_cli.proofs.Audited.{IsKind}
use Rattle.raire_cli.proofs.Said.{said}

-- ---- the claims cover

-- a budget that ran out and an order that isn't refuted have answers of other kinds
pub covered_on : (readings : Readings) (nodes : ℕ) (file : Content) (next : Script) (kind : AnswerKind) (text : List ℕ) → IsKind kind →
    Concludes readings (if_covered nodes file next) (Answered kind text) → (uncovered nodes file ≡ None) × Concludes readings next (Answered kind text)
covered_on readings nodes file next kind text of comes =
    by (first_over (candidate_count file) file.winner (assertions_of file) nodes)
    (standing_order (candidate_count file) file.winner (assertions_of file)) of comes
  where
    ended : Option ℕ → Option (List ℕ) → Option Verdict
    ended over left = option_or (option_map (spent file) over) (option_map (standing file) left)

    by : (over : Option ℕ) (left : Option (List ℕ)) → IsKind kind → Concludes readings (unless_ended (ended over left) next) (Answered kind text) →
        (ended over left ≡ None) × Concludes readings next (Answered kind text)
    by (Some last) left (inl done) is = absurd (cc (is, done))
    by (Some last) left (inr unconfirmed) is = absurd (cc (is, unconfirmed))
    by None (Some order) (inl done) is = absurd (cc (is, done))
    by None (Some order) (inr unconfirmed) is = absurd (cc (is, unconfirmed))
    by None None of comes = (refl, comes)

-- ---- each drawn card is seen

module _ (task : PollTask) (batches : Batches) (file : Content) (entries : List Entry) where
  abbrev inputs : PollInputs
  inputs = record { batches = batches; file = file; entries = entries }

  seen_all : (kind : AnswerKind) (text : List ℕ) → Polls task batches file entries (Answered kind text) →
      (unseen_draw task.seed (cards task inputs) entries task.draws ≡ None)
      × (kind ≡ confirmed_kind (is_yes task batches file entries)) × (text ≡ poll_text task batches file entries)
  seen_all kind text is = by (unseen_draw task.seed (cards task inputs) entries task.draws) refl is where
    by : (o : Option ℕ) → unseen_draw task.seed (cards task inputs) entries task.draws ≡ o →
        Answered kind text ≡ unwrap_or (option_map (λ k. Refused task.seen (no_record_text (drawn_card task.seed k (cards task inputs)) k)) o)
        (answered task batches file entries) →
        (unseen_draw task.seed (cards task inputs) entries task.draws ≡ None)
        × (kind ≡ confirmed_kind (is_yes task batches file entries)) × (text ≡ poll_text task batches file entries)
    by None e is = (e, cc is, cc is)
    by (Some k) e is = absurd (cc is)

-- ---- the files, in order

module _ (words : List (List ℕ)) (files : List File) (asks : Asks Poll words) (kind : AnswerKind) (text : List ℕ) (of : IsKind kind) where
  pub polled_by : ComesTo (AsHeld files) (asked words) (Answered kind text) →
      (poll : IsPollOf words files) × (text ≡ told_of poll) × (kind ≡ confirmed_kind (is_confirmed_by poll))
  polled_by comes =
      let task = asks.task in
      let m = said files task.manifest (refused_manifest task.manifest) manifest_of (λ bytes batches. after_manifest task batches) kind text (λ why. tt)
      (subst (λ command. ComesTo (AsHeld files) (asked_by command) (Answered kind text)) asks.asked comes) in
      let a = said files task.assertions (refused_assertions task.assertions) assertion_file_of (λ bytes file. after_assertions task m.value file) kind text
      (λ why. tt) m.rest in
      let (covered, on) = covered_on (AsHeld files) task.nodes a.value (after_cover task m.value a.value) kind text of a.rest in
      let s = said files task.seen (refused_seen task.seen) (seen_of m.value a.value.candidates)
      (λ bytes entries. Ends (Polls task m.value a.value entries)) kind text (λ why. tt) on in
      let (all_told, kind-is, text-is) = seen_all task m.value a.value s.value kind text s.rest in (
        record {
          asks = asks;
          bytes = record { manifest = m.bytes; assertions = a.bytes; seen = s.bytes };
          held = record { manifest = m.held; assertions = a.held; seen = s.held };
          inputs = record { batches = m.value; file = a.value; entries = s.value };
          say = record { manifest = m.is; assertions = a.is; seen = s.is };
          cover = covering task.nodes a.value (read_is_sound a.bytes a.value a.is) covered;
          all_told = all_told;
        },
        text-is,
        kind-is,
      )

-- ---- the exact risk

module _ (limit gamma : ℕ) (lasting : 1 ≤ gamma) (part : limit < millionths_in_one) (seen : List Seen) (drawn : List ℕ) where
  abbrev is_printed : (List ℕ → ℕ) → Bool
  is_printed value = is_risk_within limit (poll_risk gamma (poll_counts value seen drawn))

  abbrev WasWithin : (List ℕ → ℕ) → Type 0
  WasWithin value = IsTrue (is_within 1 1 gamma limit (map (λ card. seen_value value (seen_at seen card)) drawn))

  was_within : (value : List ℕ → ℕ) → IsAssorter value → is_printed value ≡ true → WasWithin value
  was_within value is printed =
      let values : List ℕ = map (λ card. seen_value value (seen_at seen card)) drawn in
      let two : All (λ s. s ≤ 2) values =
      All-map (λ s. s ≤ 2) (λ card. seen_value value (seen_at seen card)) drawn (λ j c below. seen-within value is (seen_at seen (get_or drawn j c))) in
      let four = All-weaker (λ s. s ≤ 2) (λ d. d ≤ 4) (λ s small. omega arith) values two in
      confirmed_law 1 1 gamma limit values (omega arith) (omega arith) lasting part four (rw (← as-discrepancies values two) printed)

  all_within : (values : List (List ℕ → ℕ)) → All IsAssorter values → list_all is_printed values ≡ true → All WasWithin values
  all_within [] are each k d below = absurd (omega arith)
  all_within (value ∷ values) are each zero d below =
      was_within value (All-head IsAssorter value values are) (and_parts (is_printed value) (list_all is_printed values) each).0
  all_within (value ∷ values) are each (suc k) d below =
      all_within values (All-tail IsAssorter value values are) (and_parts (is_printed value) (list_all is_printed values) each).1 k d (omega arith)

-- if each claim is confirmed, its exact risk is within the limit
pub were_within : {words : List (List ℕ)} {files : List File} (poll : IsPollOf words files) → IsTrue (is_confirmed_by poll) → WereAllWithin poll
were_within {words} {files} poll confirmed =
    let task = poll.asks.task in
    let within : IsWithinLimits task = are_checked words (Poll task) poll.asks.asked in
    let n : ℕ = cards task poll.inputs in
    let (some-limit, most-limit) = within.limit in
    let (some-gamma, most-gamma) = within.gamma in
    let part : task.limit < millionths_in_one = omega (arith, most-limit) in
    all_within task.limit task.gamma some-gamma part (all_seen poll.inputs.entries n) (drawn task poll.inputs task.draws) (values_of poll.inputs.file)
    (All-map IsAssorter (λ claim. assorter_value claim.assertion) poll.inputs.file.claims
    (λ j claim below. assorter-is (get_or poll.inputs.file.claims j claim).assertion)) confirmed
