-- A poll with a look after each draw that confirms all claims is counted, and the polls of what was announced confirm all claims on few
-- sequences.
use Rattle.std.proofs.Common.{◌≡◌, ℕ, ◌≤◌, ◌<◌, ◌*◌, ◌^◌, List, [], ◌∷◌, map, length, get_or, IfSome, Ok, Option, IsTrue, sym, ap, subst, ◌∙◌, arith}
use Rattle.std.proofs.lemmas.List.Elements.{All-head, All-map, All-weaker}
use Rattle.std.proofs.lemmas.Simd.{map-map}
use Rattle.desk.specs.Desk.{File}
use Rattle.assertions.specs.Assorter.{assorter_value}
use Rattle.manifest.specs.Cards.{Batches, cards_of}
use Rattle.manifest.specs.Manifest.{manifest_of}
use Rattle.assertion_file.specs.Content.{Content, candidate_count}
use Rattle.assertion_file.specs.Reading.{assertion_file_of}
use Rattle.km_risk.specs.Exact.{millionths_in_one}
use Rattle.km_risk.specs.Reach.{IsSequence}
use Rattle.km_risk.specs.declared.limits.TheConstants.{GREATEST_EACH_GAMMA}
use Rattle.audit_session.specs.Going.{all_seen, drawn_cards}
use Rattle.audit_session.specs.Laws.{AreTrueEntries}
use Rattle.audit_laws.specs.Claims.{Cover, claimed}
use Rattle.audit_laws.specs.RiskLimit.{MayElectAnother}
use Rattle.polling.specs.Each.{Polled, is_each_confirmed, polled_claim, polled_of}
use Rattle.polling.specs.EachLimit.{AreEachTerms, MayBeEachConfirmed}
use Rattle.polling.proofs.EachLimit.{each_is_counted, each_limit}
use Rattle.command.specs.Limits.{IsUpTo}
use Rattle.command.specs.PollEach.{IsWithinLimits}
use Rattle.command_line.specs.declared.commands.Command.TheVariants.{PollEach}
use Rattle.command_line.proofs.Checked.{are_checked}
use Rattle.raire_cli.specs.PollsEach.{IsEachPollOf, cards, claims, drawn, is_confirmed_by}
use Rattle.raire_cli.proofs.PolledEach.{some_gamma}
use Rattle.raire_cli.proofs.Said.{only}
use Rattle.call_laws.specs.EachPollLaws.{AnnouncedEachPoll, EachConfirmedAreFew, EachConfirmedIsCounted, IsEachConfirmedOn}
use Rattle.call_laws.proofs.PollsLimit.{some_card}

-- ---- a poll that confirms

module _ (words : List (List ℕ)) (files : List File) (poll : IsEachPollOf words files) (actual : List (List ℕ)) (most : ℕ) where
  pub poll_is_counted : IsTrue (is_confirmed_by poll) → poll.asks.task.draws ≤ most → length actual ≡ cards poll.asks.task poll.inputs →
      AreTrueEntries actual poll.inputs.entries (drawn poll.asks.task poll.inputs poll.asks.task.draws) →
      IsSequence (cards poll.asks.task poll.inputs) most (drawn poll.asks.task poll.inputs most)
      × MayBeEachConfirmed poll.asks.task.limit (claims poll.asks.task poll.inputs) actual (drawn poll.asks.task poll.inputs most)
  poll_is_counted confirmed few long true' =
      let task = poll.asks.task in
      let inputs = poll.inputs in
      let own : List Polled = claims task inputs in
      let some = some_card poll.bytes.manifest inputs.batches poll.say.manifest in
      subst (λ n. IsSequence n most (drawn_cards task.seed n most) × MayBeEachConfirmed task.limit own actual (drawn_cards task.seed n most)) long
      (each_is_counted task.limit task.draws most task.seed own inputs.entries actual (omega (arith, some, long)) few
      (subst (λ n. AreTrueEntries actual inputs.entries (drawn_cards task.seed n task.draws)) (sym long) true')
      (subst (λ n. IsTrue (is_each_confirmed task.limit own (all_seen inputs.entries n) (drawn_cards task.seed n task.draws))) (sym long) confirmed))

pub each_confirmed_is_counted : EachConfirmedIsCounted
each_confirmed_is_counted words files poll actual most confirmed few long true' =
    (poll_is_counted words files poll actual most confirmed few long true').1

-- ---- the polls of what was announced

module _ (announced : AnnouncedEachPoll) (actual : List (List ℕ)) (most : ℕ) where
  abbrev all_cards : ℕ
  all_cards = length (cards_of announced.batches)

  -- the claims with their gammas
  abbrev own_claims : List Polled
  own_claims = polled_of announced.gamma all_cards announced.file

  -- the sequence has this number of draws, and is counted
  abbrev Counted : Batches → Content → ℕ → Option ℕ → List ℕ → Type 0
  Counted batches file limit gamma sequence =
      IsSequence (length (cards_of batches)) most sequence × MayBeEachConfirmed limit (polled_of gamma (length (cards_of batches)) file) actual sequence

  module _ (sequence : List ℕ) (on : IsEachConfirmedOn announced actual most sequence) where
    same-batches : on.poll.inputs.batches ≡ announced.batches
    same-batches = only (subst (λ bytes. manifest_of bytes ≡ Ok on.poll.inputs.batches) on.same_manifest on.poll.say.manifest) announced.says_cards

    same-file : on.poll.inputs.file ≡ announced.file
    same-file = only (subst (λ bytes. assertion_file_of bytes ≡ Ok on.poll.inputs.file) on.same_assertions on.poll.say.assertions) announced.says_claims

    cover : Cover (candidate_count announced.file) announced.file.winner (claimed announced.file)
    cover = subst (λ (file : Content). Cover (candidate_count file) file.winner (claimed file)) same-file on.poll.cover

    limits : IsWithinLimits on.poll.asks.task
    limits = are_checked on.words (PollEach on.poll.asks.task) on.poll.asks.asked

    terms : AreEachTerms announced.limit own_claims
    terms =
        let (some_limit, most_limit) = limits.limit in
        let within : IfSome announced.gamma (IsUpTo GREATEST_EACH_GAMMA) =
        subst (λ gamma. IfSome gamma (IsUpTo GREATEST_EACH_GAMMA)) on.same_gamma limits.gamma in
        record {
          below_one = subst (λ limit. limit < millionths_in_one) on.same_limit (omega (arith, most_limit));
          positive = All-map (λ (claim : Polled). 1 ≤ claim.gamma) (polled_claim announced.gamma all_cards) announced.file.claims
              (λ j claim below. some_gamma announced.gamma within all_cards (get_or announced.file.claims j claim));
        }

    counted : length actual ≡ all_cards → Counted announced.batches announced.file announced.limit announced.gamma sequence
    counted long =
        let task = on.poll.asks.task in
        let own : Counted on.poll.inputs.batches on.poll.inputs.file task.limit task.gamma sequence =
        subst (Counted on.poll.inputs.batches on.poll.inputs.file task.limit task.gamma) (sym on.of_seed)
        (poll_is_counted on.words on.files on.poll actual most on.confirmed on.few
        (long ∙ ap (λ (batches : Batches). length (cards_of batches)) (sym same-batches)) on.true_entries) in
        subst (λ gamma. Counted announced.batches announced.file announced.limit gamma sequence) on.same_gamma
        (subst (λ limit. Counted announced.batches announced.file limit task.gamma sequence) on.same_limit
        (subst (λ file. Counted announced.batches file task.limit task.gamma sequence) same-file
        (subst (λ batches. Counted batches on.poll.inputs.file task.limit task.gamma sequence) same-batches own)))

-- the claims of a file count as its assertions
claim_values : (gamma : Option ℕ) (n : ℕ) (file : Content) → map (λ (claim : Polled). claim.value) (polled_of gamma n file) ≡ map assorter_value (claimed file)
claim_values gamma n file =
    map-map (λ (claim : Polled). claim.value) (polled_claim gamma n) file.claims ∙ sym (map-map assorter_value (λ claim. claim.assertion) file.claims)

pub each_confirmed_are_few : EachConfirmedAreFew
each_confirmed_are_few announced actual most [] wrong differ polls = omega arith
each_confirmed_are_few announced actual most (sequence ∷ more) wrong differ polls =
    let on : IsEachConfirmedOn announced actual most sequence = All-head (IsEachConfirmedOn announced actual most) sequence more polls in
    let file = announced.file in
    let own : List Polled = own_claims announced actual most in
    let long = wrong.one_each in
    subst (λ n. length (sequence ∷ more) * millionths_in_one ≤ announced.limit * n ^ most) long
    (each_limit (candidate_count file) file.winner announced.limit most (claimed file) own actual (sequence ∷ more)
    (cover announced actual most sequence on) (claim_values announced.gamma (length (cards_of announced.batches)) file)
    (terms announced actual most sequence on)
    (subst (λ n. MayElectAnother (candidate_count file) file.winner n actual) (sym long) wrong) (record {
      drawn = All-weaker (IsEachConfirmedOn announced actual most) (IsSequence (length actual) most)
          (λ sequence on. subst (λ n. IsSequence n most sequence) (sym long) (counted announced actual most sequence on long).0) (sequence ∷ more) polls;
      differ = differ;
      each = All-weaker (IsEachConfirmedOn announced actual most) (MayBeEachConfirmed announced.limit own actual)
          (λ sequence on. (counted announced actual most sequence on long).1) (sequence ∷ more) polls;
    }))
