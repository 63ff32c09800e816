-- If an audit of a plurality contest signs its session off, the risk limit counts the session. Those sessions are few.
use Rattle.std.proofs.Common.{◌≡◌, ◌≢◌, ℕ, ◌<◌, ◌≤◌, List, [], ◌∷◌, length, Option, Some, Ok, All, AllPairs, IsTrue, sym, ap, subst, ◌∙◌, arith}
use Rattle.std.proofs.lemmas.List.{length-map}
use Rattle.std.proofs.lemmas.List.Elements.{All-head, All-weaker}
use Rattle.csv_rows.specs.Fields.{numbered_records}
use Rattle.desk.specs.Desk.{File}
use Rattle.irv_base.specs.Names.{Id}
use Rattle.ballot_laws.proofs.Sound.{read_is_sound as read_ballots_are_sound}
use Rattle.manifest.specs.Cards.{cards_of}
use Rattle.manifest.specs.Linked.{linked_of, recorded_of}
use Rattle.manifest.proofs.Spelled.{records_spell_batches}
use Rattle.km_risk.specs.Exact.{millionths_in_one}
use Rattle.km_risk.specs.Reach.{IsSequence}
use Rattle.plurality.specs.Plural.{claims_of, values_of}
use Rattle.plurality.specs.RiskLimit.{ArePublished}
use Rattle.plurality.proofs.Risks.{plurality_risk_limit}
use Rattle.session_state.specs.Content.{Content, IsSound}
use Rattle.session_state.specs.RiskOfValues.{AreSignedOff, AreTerms, MayBeSignedOff}
use Rattle.session_state.specs.Sessions.{is_signed_off}
use Rattle.session_file.proofs.SoundFiles.{read_is_sound}
use Rattle.plurality_commands.specs.Outcome.{outcome_in}
use Rattle.raire_cli.specs.CardFiles.{CardBytes}
use Rattle.raire_cli.specs.Pluralities.{Counted, SayCounted, claims, recorded}
use Rattle.call_laws.specs.PluralLaws.{AnnouncedPlurality, IsPluralSignedOffOn, PluralSignedOffAreFew, PluralSignedOffIsCounted}
use Rattle.raire_cli.proofs.PluralLimited.{fits}
use Rattle.raire_cli.proofs.NextRounds.{round_is_counted}
use Rattle.raire_cli.proofs.Said.{only}

pub plural_signed_off_is_counted : PluralSignedOffIsCounted
plural_signed_off_is_counted words files next on actual most signed few long entries =
    (round_is_counted on.inputs.session (recorded on.inputs) on.inputs.entries (values_of on.inputs.basis.outcome) (claims on.inputs) (fits on)
    on.asks.task.draws most next actual on.is_next signed few long entries).1

-- ---- what was announced

-- bytes say one thing
said-once : (contest : Option Id) (bytes : CardBytes) (counted other : Counted) → SayCounted contest bytes counted → SayCounted contest bytes other →
    counted ≡ other
said-once contest bytes counted other says tells =
    let ballots : counted.ballots ≡ other.ballots = only says.ballots tells.ballots in
    let batches : counted.batches ≡ other.batches = only says.manifest tells.manifest in
    let outcome : counted.outcome ≡ other.outcome = only (subst (λ b. outcome_in b ≡ Ok counted.outcome) ballots says.outcome) tells.outcome in
    λ i. record { ballots = ballots i; batches = batches i; outcome = outcome i }

-- what bytes say is published
published : (contest : Option Id) (bytes : CardBytes) (counted : Counted) → SayCounted contest bytes counted →
    ArePublished counted.batches counted.ballots counted.outcome
published contest bytes counted say = record {
  manifest_sound = ((records_spell_batches (numbered_records bytes.manifest) counted.batches).0 say.manifest).sound;
  ballots_sound = (read_ballots_are_sound contest (numbered_records bytes.ballots) counted.ballots say.ballots).0;
  linked = say.placed;
  counted = say.outcome;
}

module _ (announced : AnnouncedPlurality) (actual : List (List ℕ)) (most : ℕ) where
  -- the sequence has this number of draws, and is counted
  abbrev IsCounted : Counted → ℕ → ℕ → List ℕ → Type 0
  IsCounted counted limit gamma sequence =
      IsSequence (length (linked_of counted.batches counted.ballots)) most sequence
      × MayBeSignedOff limit gamma (claims_of counted.outcome) (linked_of counted.batches counted.ballots) actual sequence

  module _ (sequence : List ℕ) (audit : IsPluralSignedOffOn announced actual most sequence) where
    same-counted : audit.on.inputs.basis ≡ announced.counted
    same-counted =
        said-once (Some announced.counted.ballots.contest) announced.bytes audit.on.inputs.basis announced.counted
        (subst (λ contest. SayCounted (Some contest) announced.bytes audit.on.inputs.basis) audit.same_contest
        (subst (λ bytes. SayCounted (Some audit.on.inputs.session.contest) bytes audit.on.inputs.basis) audit.same_files audit.on.say.basis))
        announced.say

    terms : AreTerms announced.limit announced.gamma
    terms =
        let sound : IsSound audit.on.inputs.session = (read_is_sound audit.on.bytes.session audit.on.inputs.session audit.on.say.session).0 in
        let limits = sound.limits in record {
          below_one = subst (λ limit. limit < millionths_in_one) audit.same_limit (omega (arith, limits.most_limit));
          positive = subst (λ gamma. 1 ≤ gamma) audit.same_gamma limits.some_gamma;
        }

    own : length actual ≡ length (cards_of announced.counted.batches) →
        IsCounted audit.on.inputs.basis audit.on.inputs.session.session.limit audit.on.inputs.session.session.gamma sequence
    own long =
        let inputs = audit.on.inputs in
        let cards : length (cards_of inputs.basis.batches) ≡ length (cards_of announced.counted.batches) =
        ap (λ (counted : Counted). length (cards_of counted.batches)) same-counted in
        let each : length (recorded inputs) ≡ length (cards_of inputs.basis.batches) =
        length-map (cards_of inputs.basis.batches) (recorded_of inputs.basis.ballots) in
        subst (IsCounted inputs.basis inputs.session.session.limit inputs.session.session.gamma) (sym audit.of_seed)
        (round_is_counted inputs.session (recorded inputs) inputs.entries (values_of inputs.basis.outcome) (claims inputs) (fits audit.on)
        audit.on.asks.task.draws most audit.next actual audit.on.is_next audit.signed_off audit.few (long ∙ sym cards ∙ sym each) audit.true_entries)

    counted : length actual ≡ length (cards_of announced.counted.batches) → IsCounted announced.counted announced.limit announced.gamma sequence
    counted long =
        subst (λ gamma. IsCounted announced.counted announced.limit gamma sequence) audit.same_gamma
        (subst (λ limit. IsCounted announced.counted limit audit.on.inputs.session.session.gamma sequence) audit.same_limit
        (subst (λ counted. IsCounted counted audit.on.inputs.session.session.limit audit.on.inputs.session.session.gamma sequence) same-counted (own long)))

  all-counted : length actual ≡ length (cards_of announced.counted.batches) → (sequences : List (List ℕ)) → AllPairs ◌≢◌ sequences →
      All (IsPluralSignedOffOn announced actual most) sequences →
      AreSignedOff announced.limit announced.gamma (claims_of announced.counted.outcome)
      (linked_of announced.counted.batches announced.counted.ballots) actual most sequences
  all-counted long sequences differ audits = record {
    drawn = All-weaker (IsPluralSignedOffOn announced actual most)
        (IsSequence (length (linked_of announced.counted.batches announced.counted.ballots)) most)
        (λ sequence audit. (counted sequence audit long).0) sequences audits;
    differ = differ;
    each = All-weaker (IsPluralSignedOffOn announced actual most)
        (MayBeSignedOff announced.limit announced.gamma (claims_of announced.counted.outcome)
        (linked_of announced.counted.batches announced.counted.ballots) actual)
        (λ sequence audit. (counted sequence audit long).1) sequences audits;
  }

pub plural_signed_off_are_few : PluralSignedOffAreFew
plural_signed_off_are_few announced actual most [] another differ audits = omega arith
plural_signed_off_are_few announced actual most (sequence ∷ more) another differ audits =
    let audit : IsPluralSignedOffOn announced actual most sequence = All-head (IsPluralSignedOffOn announced actual most) sequence more audits in
    plurality_risk_limit announced.limit announced.gamma most announced.counted.batches announced.counted.ballots announced.counted.outcome actual
    (sequence ∷ more) (published (Some announced.counted.ballots.contest) announced.bytes announced.counted announced.say)
    (terms announced actual most sequence audit) another
    (all-counted announced actual most another.one_each (sequence ∷ more) differ audits)
