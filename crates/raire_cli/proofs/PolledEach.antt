-- Statuses 0 and 10 of a poll with a look after each draw come with the poll of its files.
use Rattle.std.proofs.Common.{◌≡◌, ℕ, ◌<◌, ◌≤◌, List, length, get_or, take, Option, None, Some, IfSome, refl, subst, ◌∙◌, arith}
use Rattle.std.specs.Prelude.{min, max, option_map, unwrap_or}
use Rattle.std.proofs.lemmas.List.{length-map}
use Rattle.std.proofs.lemmas.List.Elements.{All-map}
use Rattle.std.proofs.lemmas.List.FromFn.{length-map-range_with_len}
use Rattle.desk.specs.Desk.{File}
use Rattle.assertions.specs.declared.assertion.Claim.{Claim}
use Rattle.sampler.specs.Draws.{drawn_card}
use Rattle.manifest.specs.Cards.{Batches}
use Rattle.manifest.specs.Manifest.{manifest_of}
use Rattle.assertion_file.specs.Content.{Content}
use Rattle.assertion_file.specs.Reading.{assertion_file_of}
use Rattle.assertion_file.proofs.SoundFiles.{read_is_sound}
use Rattle.km_risk.specs.Exact.{millionths_in_one}
use Rattle.km_risk.specs.declared.limits.TheConstants.{GREATEST_EACH_GAMMA}
use Rattle.km_risk.proofs.AsDrawn.{first_within_law, within_as_drawn_law}
use Rattle.assorters.specs.Cards.{seen_value}
use Rattle.seen_file.specs.Reading.{seen_of}
use Rattle.seen_file.specs.Seen.{Entry}
use Rattle.audit_session.specs.Going.{seen_at}
use Rattle.audit_session.specs.Refusals.{unseen_draw}
use Rattle.polling.specs.Each.{Polled, gamma_of, polled_claim, values_of}
use Rattle.cli_base.specs.Confirmed.{confirmed_kind}
use Rattle.cli_base.specs.Outcome.{Answered, Refused}
use Rattle.cli_base.specs.Script.{Ends, AsHeld, ComesTo}
use Rattle.cli_base.specs.declared.outcome.AnswerKind.{AnswerKind}
use Rattle.command.specs.Limits.{IsUpTo}
use Rattle.command.specs.PollEach.{IsWithinLimits}
use Rattle.command.specs.declared.poll_each.PollEachTask.{PollEachTask}
use Rattle.command_line.specs.declared.commands.Command.TheVariants.{PollEach}
use Rattle.command_line.proofs.Checked.{are_checked}
use Rattle.input_files.specs.Refusals.{no_record_text, refused_assertions, refused_manifest, refused_seen}
use Rattle.poll_command.specs.Each.{PollsEach, after_assertions, after_cover, after_manifest, answered, draws_asked, each_text, is_yes}
use Rattle.poll_command.proofs.Polled.{covering}
use Rattle.raire_cli.specs.Asks.{Asks}
use Rattle.raire_cli.specs.Answers.{asked, asked_by}
use Rattle.raire_cli.specs.Polls.{PollInputs}
use Rattle.raire_cli.specs.PollsEach.{AreFirst, IsEachPollOf, IsFirst, cards, claims, confirmed_by, drawn, is_confirmed_by, seen, told_of}
use Rattle.raire_cli.proofs.Audited.{IsKind}
use Rattle.raire_cli.proofs.Polled.{covered_on}
use Rattle.raire_cli.proofs.Said.{said}

-- ---- each card that is needed is seen

module _ (task : PollEachTask) (batches : Batches) (file : Content) (entries : List Entry) where
  abbrev inputs : PollInputs
  inputs = record { batches = batches; file = file; entries = entries }

  seen_all : (kind : AnswerKind) (text : List ℕ) → PollsEach task batches file entries (Answered kind text) →
      (unseen_draw task.seed (cards task inputs) entries (draws_asked task batches file entries) ≡ None)
      × (kind ≡ confirmed_kind (is_yes task batches file entries)) × (text ≡ each_text task batches file entries)
  seen_all kind text is = by (unseen_draw task.seed (cards task inputs) entries (draws_asked task batches file entries)) refl is where
    by : (o : Option ℕ) → unseen_draw task.seed (cards task inputs) entries (draws_asked task batches file entries) ≡ o →
        Answered kind text ≡ unwrap_or (option_map (λ k. Refused task.seen (no_record_text (drawn_card task.seed k (cards task inputs)) k)) o)
        (answered task batches file entries) →
        (unseen_draw task.seed (cards task inputs) entries (draws_asked task batches file entries) ≡ None)
        × (kind ≡ confirmed_kind (is_yes task batches file entries)) × (text ≡ each_text task batches file entries)
    by None e is = (e, cc is, cc is)
    by (Some k) e is = absurd (cc is)

-- ---- the files, in order

module _ (words : List (List ℕ)) (files : List File) (asks : Asks PollEach words) (kind : AnswerKind) (text : List ℕ) (of : IsKind kind) where
  pub polled_each_by : ComesTo (AsHeld files) (asked words) (Answered kind text) →
      (poll : IsEachPollOf words files) × (text ≡ told_of poll) × (kind ≡ confirmed_kind (is_confirmed_by poll))
  polled_each_by comes =
      let task = asks.task in
      let m = said files task.manifest (refused_manifest task.manifest) manifest_of (λ bytes batches. after_manifest task batches) kind text (λ why. tt)
      (subst (λ command. ComesTo (AsHeld files) (asked_by command) (Answered kind text)) asks.asked comes) in
      let a = said files task.assertions (refused_assertions task.assertions) assertion_file_of (λ bytes file. after_assertions task m.value file) kind text
      (λ why. tt) m.rest in
      let (covered, on) = covered_on (AsHeld files) task.nodes a.value (after_cover task m.value a.value) kind text of a.rest in
      let s = said files task.seen (refused_seen task.seen) (seen_of m.value a.value.candidates)
      (λ bytes entries. Ends (PollsEach task m.value a.value entries)) kind text (λ why. tt) on in
      let (all_told, kind-is, text-is) = seen_all task m.value a.value s.value kind text s.rest in (
        record {
          asks = asks;
          bytes = record { manifest = m.bytes; assertions = a.bytes; seen = s.bytes };
          held = record { manifest = m.held; assertions = a.held; seen = s.held };
          inputs = record { batches = m.value; file = a.value; entries = s.value };
          say = record { manifest = m.is; assertions = a.is; seen = s.is };
          cover = covering task.nodes a.value (read_is_sound a.bytes a.value a.is) covered;
          all_told = all_told;
        },
        text-is,
        kind-is,
      )

-- ---- the first draw that confirms a claim

some_best : (gamma : ℕ) → 1 ≤ min GREATEST_EACH_GAMMA (max 1 gamma)
some_best gamma = omega arith

-- gammas are positive
pub some_gamma : (gamma : Option ℕ) → IfSome gamma (IsUpTo GREATEST_EACH_GAMMA) → (cards : ℕ) (claim : Claim) → 1 ≤ gamma_of gamma cards claim
some_gamma (Some gamma) within cards claim = within.0
some_gamma None within cards claim = some_best _

module _ (task : PollEachTask) (within : IsWithinLimits task) (inputs : PollInputs) (claim : Polled) (lasting : 1 ≤ claim.gamma) where
  first_at : (k : ℕ) → confirmed_by task inputs claim ≡ Some k → IsFirst task inputs claim k
  first_at k is =
      let own : List ℕ = drawn task inputs task.draws in
      let values : List ℕ = values_of (seen task inputs) own claim in
      let (some, among, printed, before) = first_within_law 1 1 claim.gamma task.limit k values is in
      let long : length values ≡ task.draws = length-map own (λ card. seen_value claim.value (seen_at (seen task inputs) card))
      ∙ length-map-range_with_len (λ k. drawn_card task.seed k (cards task inputs)) 1 task.draws in
      let (some-limit, most-limit) = within.limit in
      let part : task.limit < millionths_in_one = omega (arith, most-limit) in
      record {
        some = some;
        among = subst (λ n. k ≤ n) long among;
        printed = printed;
        exact = within_as_drawn_law 1 1 claim.gamma task.limit (take k values) (omega arith) (omega arith) lasting part printed;
        not_before = before;
      }

  first : IfSome (confirmed_by task inputs claim) (IsFirst task inputs claim)
  first = by (confirmed_by task inputs claim) first_at where
    by : (o : Option ℕ) → ((k : ℕ) → o ≡ Some k → IsFirst task inputs claim k) → IfSome o (IsFirst task inputs claim)
    by None there = tt
    by (Some k) there = there k refl

pub are_first : {words : List (List ℕ)} {files : List File} (poll : IsEachPollOf words files) → AreFirst poll
are_first {words} {files} poll =
    let task = poll.asks.task in
    let within : IsWithinLimits task = are_checked words (PollEach task) poll.asks.asked in
    let n : ℕ = cards task poll.inputs in
    All-map (λ claim. IfSome (confirmed_by task poll.inputs claim) (IsFirst task poll.inputs claim)) (polled_claim task.gamma n) poll.inputs.file.claims
    (λ j claim below.
    first task within poll.inputs (polled_claim task.gamma n (get_or poll.inputs.file.claims j claim))
    (some_gamma task.gamma within.gamma n (get_or poll.inputs.file.claims j claim)))
