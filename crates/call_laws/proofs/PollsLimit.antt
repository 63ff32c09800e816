-- A poll that confirms all claims is counted, and the polls of what was announced confirm them on few sequences.
use Rattle.std.proofs.Common.{◌≡◌, ℕ, ◌≤◌, ◌<◌, ◌*◌, ◌^◌, true, nat_le, List, [], ◌∷◌, map, length, Ok, IsTrue, sym, ap, subst, ◌∙◌, arith, leb-true}
use Rattle.std.specs.List.{list_all, sum}
use Rattle.std.proofs.lemmas.Bool.{and_parts}
use Rattle.std.proofs.lemmas.List.Elements.{All-head, All-weaker}
use Rattle.std.proofs.lemmas.Simd.{map-map}
use Rattle.desk.specs.Desk.{File}
use Rattle.csv_rows.specs.Fields.{numbered_records}
use Rattle.irv_base.specs.Names.{Id}
use Rattle.assertions.specs.Assorter.{assorter_value}
use Rattle.manifest.specs.Cards.{Batches, cards_of, is_count}
use Rattle.manifest.specs.Manifest.{manifest_of}
use Rattle.manifest.proofs.CardAt.{length-cards, sum-cons}
use Rattle.manifest.proofs.Spelled.{records_spell_batches}
use Rattle.assertion_file.specs.Content.{Content, candidate_count}
use Rattle.assertion_file.specs.Reading.{assertion_file_of}
use Rattle.km_risk.specs.Exact.{millionths_in_one}
use Rattle.km_risk.specs.Reach.{IsSequence}
use Rattle.session_state.specs.Claims.{values_of}
use Rattle.session_state.specs.RiskOfValues.{AreTerms}
use Rattle.audit_session.specs.Going.{all_seen, drawn_cards}
use Rattle.audit_session.specs.Laws.{AreTrueEntries}
use Rattle.audit_laws.specs.Claims.{Cover, claimed}
use Rattle.audit_laws.specs.RiskLimit.{MayElectAnother}
use Rattle.polling.specs.Polls.{is_confirmed}
use Rattle.polling.specs.PollLimit.{MayBeConfirmed}
use Rattle.polling.proofs.IsCounted.{polled_is_counted}
use Rattle.polling.proofs.Limit.{poll_limit}
use Rattle.command.specs.Poll.{IsWithinLimits}
use Rattle.command_line.specs.declared.commands.Command.TheVariants.{Poll}
use Rattle.command_line.proofs.Checked.{are_checked}
use Rattle.raire_cli.specs.Polls.{IsPollOf, cards, drawn, is_confirmed_by}
use Rattle.call_laws.specs.PollLaws.{AnnouncedPoll, ConfirmedAreFew, ConfirmedIsCounted, IsConfirmedOn}
use Rattle.raire_cli.proofs.Said.{only}

-- ---- a manifest has a card

some_count : (ids : List Id) (counts : List ℕ) → length counts ≡ length ids → 1 ≤ length ids → list_all is_count counts ≡ true → 1 ≤ sum counts
some_count [] counts same some each = absurd (omega (arith, some))
some_count (id ∷ ids) [] same some each = absurd (omega (arith, same))
some_count (id ∷ ids) (n ∷ counts) same some each =
    let first = leb-true 1 n (and_parts (nat_le 1 n) _ (and_parts (is_count n) (list_all is_count counts) each).0).0 in
    omega (arith, first, sum-cons n counts)

pub some_card : (bytes : List ℕ) (batches : Batches) → manifest_of bytes ≡ Ok batches → 1 ≤ length (cards_of batches)
some_card bytes batches read =
    let spelled = (records_spell_batches (numbered_records bytes) batches).0 read in
    let all = length-cards batches.ids batches.counts spelled.sound.a_count_each in
    let some = some_count batches.ids batches.counts spelled.sound.a_count_each spelled.some spelled.sound.counted in
    omega (arith, all, some)

-- ---- a poll that confirms

module _ (words : List (List ℕ)) (files : List File) (poll : IsPollOf words files) (actual : List (List ℕ)) (most : ℕ) where
  pub poll_is_counted : IsTrue (is_confirmed_by poll) → poll.asks.task.draws ≤ most → length actual ≡ cards poll.asks.task poll.inputs →
      AreTrueEntries actual poll.inputs.entries (drawn poll.asks.task poll.inputs poll.asks.task.draws) →
      IsSequence (cards poll.asks.task poll.inputs) most (drawn poll.asks.task poll.inputs most)
      × MayBeConfirmed poll.asks.task.limit poll.asks.task.gamma (values_of poll.inputs.file) actual (drawn poll.asks.task poll.inputs most)
  poll_is_counted confirmed few long true' =
      let task = poll.asks.task in
      let inputs = poll.inputs in
      let some = some_card poll.bytes.manifest inputs.batches poll.say.manifest in
      subst (λ n. IsSequence n most (drawn_cards task.seed n most)
      × MayBeConfirmed task.limit task.gamma (values_of inputs.file) actual (drawn_cards task.seed n most)) long
      (polled_is_counted task.limit task.gamma task.draws most task.seed (values_of inputs.file) inputs.entries actual (omega (arith, some, long)) few
      (subst (λ n. AreTrueEntries actual inputs.entries (drawn_cards task.seed n task.draws)) (sym long) true')
      (subst (λ n. IsTrue (is_confirmed task.limit task.gamma (values_of inputs.file) (all_seen inputs.entries n)
      (drawn_cards task.seed n task.draws))) (sym long) confirmed))

pub confirmed_is_counted : ConfirmedIsCounted
confirmed_is_counted words files poll actual most confirmed few long true' = (poll_is_counted words files poll actual most confirmed few long true').1

-- ---- the polls of what was announced

module _ (announced : AnnouncedPoll) (actual : List (List ℕ)) (most : ℕ) where
  abbrev all_cards : ℕ
  all_cards = length (cards_of announced.batches)

  -- the sequence has this number of draws, and is counted
  abbrev Counted : Batches → Content → ℕ → ℕ → List ℕ → Type 0
  Counted batches file limit gamma sequence =
      IsSequence (length (cards_of batches)) most sequence × MayBeConfirmed limit gamma (values_of file) actual sequence

  module _ (sequence : List ℕ) (on : IsConfirmedOn announced actual most sequence) where
    same-batches : on.poll.inputs.batches ≡ announced.batches
    same-batches = only (subst (λ bytes. manifest_of bytes ≡ Ok on.poll.inputs.batches) on.same_manifest on.poll.say.manifest) announced.says_cards

    same-file : on.poll.inputs.file ≡ announced.file
    same-file = only (subst (λ bytes. assertion_file_of bytes ≡ Ok on.poll.inputs.file) on.same_assertions on.poll.say.assertions) announced.says_claims

    cover : Cover (candidate_count announced.file) announced.file.winner (claimed announced.file)
    cover = subst (λ (file : Content). Cover (candidate_count file) file.winner (claimed file)) same-file on.poll.cover

    limits : IsWithinLimits on.poll.asks.task
    limits = are_checked on.words (Poll on.poll.asks.task) on.poll.asks.asked

    terms : AreTerms announced.limit announced.gamma
    terms =
        let (some_limit, most_limit) = limits.limit in
        let (some_gamma, most_gamma) = limits.gamma in record {
          below_one = subst (λ limit. limit < millionths_in_one) on.same_limit (omega (arith, most_limit));
          positive = subst (λ gamma. 1 ≤ gamma) on.same_gamma some_gamma;
        }

    counted : length actual ≡ all_cards → Counted announced.batches announced.file announced.limit announced.gamma sequence
    counted long =
        let task = on.poll.asks.task in
        let own : Counted on.poll.inputs.batches on.poll.inputs.file task.limit task.gamma sequence =
        subst (Counted on.poll.inputs.batches on.poll.inputs.file task.limit task.gamma) (sym on.of_seed)
        (poll_is_counted on.words on.files on.poll actual most on.confirmed on.few
        (long ∙ ap (λ (batches : Batches). length (cards_of batches)) (sym same-batches)) on.true_entries) in
        subst (λ gamma. Counted announced.batches announced.file announced.limit gamma sequence) on.same_gamma
        (subst (λ limit. Counted announced.batches announced.file limit task.gamma sequence) on.same_limit
        (subst (λ file. Counted announced.batches file task.limit task.gamma sequence) same-file
        (subst (λ batches. Counted batches on.poll.inputs.file task.limit task.gamma sequence) same-batches own)))

-- a file's values are those of its assertions
file_values : (file : Content) → map assorter_value (claimed file) ≡ values_of file
file_values file = map-map assorter_value (λ claim. claim.assertion) file.claims

pub confirmed_are_few : ConfirmedAreFew
confirmed_are_few announced actual most [] wrong differ polls = omega arith
confirmed_are_few announced actual most (sequence ∷ more) wrong differ polls =
    let on : IsConfirmedOn announced actual most sequence = All-head (IsConfirmedOn announced actual most) sequence more polls in
    let file = announced.file in
    let long = wrong.one_each in
    subst (λ n. length (sequence ∷ more) * millionths_in_one ≤ announced.limit * n ^ most) long
    (poll_limit (candidate_count file) file.winner announced.limit announced.gamma most (claimed file) actual (sequence ∷ more)
    (cover announced actual most sequence on) (terms announced actual most sequence on)
    (subst (λ n. MayElectAnother (candidate_count file) file.winner n actual) (sym long) wrong) (record {
      drawn = All-weaker (IsConfirmedOn announced actual most) (IsSequence (length actual) most)
          (λ sequence on. subst (λ n. IsSequence n most sequence) (sym long) (counted announced actual most sequence on long).0) (sequence ∷ more) polls;
      differ = differ;
      each = All-weaker (IsConfirmedOn announced actual most)
          (MayBeConfirmed announced.limit announced.gamma (map assorter_value (claimed file)) actual)
          (λ sequence on. subst (λ values. MayBeConfirmed announced.limit announced.gamma values actual sequence) (sym (file_values file))
          (counted announced actual most sequence on long).1) (sequence ∷ more) polls;
    }))
