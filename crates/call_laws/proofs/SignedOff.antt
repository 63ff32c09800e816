-- The risk limit counts a session that an audit signs off, and the audits of what was announced are signed off on few of all sequences of
-- draws.
use Rattle.std.proofs.Common.{◌≡◌, ◌≢◌, ℕ, ◌<◌, ◌≤◌, List, [], ◌∷◌, length, Option, Some, All, AllPairs, sym, ap, subst, ◌∙◌, arith}
use Rattle.std.proofs.lemmas.List.{length-map}
use Rattle.std.proofs.lemmas.List.Elements.{All-head, All-weaker}
use Rattle.csv_rows.specs.Fields.{numbered_records}
use Rattle.irv_base.specs.Names.{Id}
use Rattle.ballot_laws.proofs.Sound.{read_is_sound as read_ballots_are_sound}
use Rattle.manifest.specs.Cards.{cards_of}
use Rattle.manifest.specs.Linked.{linked_of, recorded_of}
use Rattle.manifest.proofs.Spelled.{records_spell_batches}
use Rattle.assertion_file.specs.Content.{Content as FileContent}
use Rattle.assertion_file.proofs.SoundFiles.{read_is_sound as read_file_is_sound}
use Rattle.km_risk.specs.Exact.{millionths_in_one}
use Rattle.km_risk.specs.Reach.{IsSequence}
use Rattle.session_state.specs.Content.{IsSound}
use Rattle.session_file.proofs.SoundFiles.{read_is_sound}
use Rattle.audit_laws.specs.Laws.{FitTogether}
use Rattle.session_state.specs.Claims.{audited, values_of}
use Rattle.session_state.specs.RiskOfValues.{AreSignedOff, AreTerms, MayBeSignedOff}
use Rattle.audit_laws.proofs.Published.{held_risk_limit}
use Rattle.raire_cli.specs.Audits.{claims, recorded}
use Rattle.raire_cli.specs.Basis.{Basis, BelongTogether, FileBytes, Say}
use Rattle.call_laws.specs.Laws.{SignedOffIsCounted}
use Rattle.call_laws.specs.SignedOff.{Announced, IsSignedOffOn, SignedOffAreFew}
use Rattle.raire_cli.proofs.Limited.{fits as fits_it}
use Rattle.raire_cli.proofs.NextRounds.{round_is_counted}
use Rattle.raire_cli.proofs.Said.{only}

pub signed_off_is_counted : SignedOffIsCounted
signed_off_is_counted words files next on actual most signed few long entries =
    (round_is_counted on.inputs.session (recorded on.inputs) on.inputs.entries (values_of on.inputs.basis.file) (claims on.inputs) (fits_it on)
    on.asks.task.draws most next actual on.is_next signed few long entries).1

-- bytes say one thing
said-once : (contest : Option Id) (bytes : FileBytes) (basis other : Basis) → Say contest bytes basis → Say contest bytes other → basis ≡ other
said-once contest bytes basis other says tells =
    let ballots : basis.ballots ≡ other.ballots = only says.ballots tells.ballots in
    let batches : basis.batches ≡ other.batches = only says.manifest tells.manifest in
    let file : basis.file ≡ other.file = only says.assertions tells.assertions in
    λ i. record { ballots = ballots i; batches = batches i; file = file i }

-- what bytes say is sound, so its parts fit together
fit : (contest : Option Id) (bytes : FileBytes) (basis : Basis) → Say contest bytes basis → BelongTogether basis →
    FitTogether basis.batches basis.ballots basis.file
fit contest bytes basis say together = record {
  manifest_sound = ((records_spell_batches (numbered_records bytes.manifest) basis.batches).0 say.manifest).sound;
  ballots_sound = (read_ballots_are_sound contest (numbered_records bytes.ballots) basis.ballots say.ballots).0;
  file_sound = read_file_is_sound bytes.assertions basis.file say.assertions;
  linked = together.placed;
  holds = together.holds;
}

module _ (announced : Announced) (actual : List (List ℕ)) (most : ℕ) where
  -- the sequence has this number of draws, and is counted
  abbrev Counted : Basis → ℕ → ℕ → List ℕ → Type 0
  Counted basis limit gamma sequence =
      IsSequence (length (linked_of basis.batches basis.ballots)) most sequence
      × MayBeSignedOff limit gamma (audited basis.file) (linked_of basis.batches basis.ballots) actual sequence

  module _ (sequence : List ℕ) (audit : IsSignedOffOn announced actual most sequence) where
    same-contest : audit.on.inputs.session.contest ≡ announced.basis.file.contest
    same-contest =
        let said = subst (λ bytes. Say (Some audit.on.inputs.session.contest) bytes audit.on.inputs.basis) audit.same_files audit.on.say.basis in
        let file : audit.on.inputs.basis.file ≡ announced.basis.file = only said.assertions announced.say.assertions in
        audit.on.of_files.facts.contest_is ∙ ap (λ (file : FileContent). file.contest) file

    same-basis : audit.on.inputs.basis ≡ announced.basis
    same-basis =
        said-once (Some announced.basis.file.contest) announced.bytes audit.on.inputs.basis announced.basis
        (subst (λ contest. Say (Some contest) announced.bytes audit.on.inputs.basis) same-contest
        (subst (λ bytes. Say (Some audit.on.inputs.session.contest) bytes audit.on.inputs.basis) audit.same_files audit.on.say.basis))
        announced.say

    fits : FitTogether announced.basis.batches announced.basis.ballots announced.basis.file
    fits = fit (Some announced.basis.file.contest) announced.bytes announced.basis announced.say (subst BelongTogether same-basis audit.on.together)

    terms : AreTerms announced.limit announced.gamma
    terms =
        let sound : IsSound audit.on.inputs.session = (read_is_sound audit.on.bytes.session audit.on.inputs.session audit.on.say.session).0 in
        let limits = sound.limits in record {
          below_one = subst (λ limit. limit < millionths_in_one) audit.same_limit (omega (arith, limits.most_limit));
          positive = subst (λ gamma. 1 ≤ gamma) audit.same_gamma limits.some_gamma;
        }

    own : length actual ≡ length (cards_of announced.basis.batches) →
        Counted audit.on.inputs.basis audit.on.inputs.session.session.limit audit.on.inputs.session.session.gamma sequence
    own long =
        let inputs = audit.on.inputs in
        let cards : length (cards_of inputs.basis.batches) ≡ length (cards_of announced.basis.batches) =
        ap (λ (basis : Basis). length (cards_of basis.batches)) same-basis in
        let each : length (linked_of inputs.basis.batches inputs.basis.ballots) ≡ length (cards_of inputs.basis.batches) =
        length-map (cards_of inputs.basis.batches) (recorded_of inputs.basis.ballots) in
        subst (Counted inputs.basis inputs.session.session.limit inputs.session.session.gamma) (sym audit.of_seed)
        (round_is_counted inputs.session (recorded inputs) inputs.entries (values_of inputs.basis.file) (claims inputs) (fits_it audit.on)
        audit.on.asks.task.draws most audit.next actual audit.on.is_next audit.signed_off audit.few (long ∙ sym cards ∙ sym each) audit.true_entries)

    counted : length actual ≡ length (cards_of announced.basis.batches) →
        Counted announced.basis announced.limit announced.gamma sequence
    counted long =
        subst (λ gamma. Counted announced.basis announced.limit gamma sequence) audit.same_gamma
        (subst (λ limit. Counted announced.basis limit audit.on.inputs.session.session.gamma sequence) audit.same_limit
        (subst (λ basis. Counted basis audit.on.inputs.session.session.limit audit.on.inputs.session.session.gamma sequence) same-basis (own long)))

  all-counted : length actual ≡ length (cards_of announced.basis.batches) → (sequences : List (List ℕ)) → AllPairs ◌≢◌ sequences →
      All (IsSignedOffOn announced actual most) sequences →
      AreSignedOff announced.limit announced.gamma (audited announced.basis.file) (linked_of announced.basis.batches announced.basis.ballots) actual most
      sequences
  all-counted long sequences differ audits = record {
    drawn = All-weaker (IsSignedOffOn announced actual most)
        (IsSequence (length (linked_of announced.basis.batches announced.basis.ballots)) most)
        (λ sequence audit. (counted sequence audit long).0) sequences audits;
    differ = differ;
    each = All-weaker (IsSignedOffOn announced actual most)
        (MayBeSignedOff announced.limit announced.gamma (audited announced.basis.file)
        (linked_of announced.basis.batches announced.basis.ballots) actual)
        (λ sequence audit. (counted sequence audit long).1) sequences audits;
  }

pub signed_off_are_few : SignedOffAreFew
signed_off_are_few announced actual most [] wrong differ audits = omega arith
signed_off_are_few announced actual most (sequence ∷ more) wrong differ audits =
    let audit : IsSignedOffOn announced actual most sequence = All-head (IsSignedOffOn announced actual most) sequence more audits in
    held_risk_limit announced.limit announced.gamma most announced.basis.batches announced.basis.ballots announced.basis.file actual
    (sequence ∷ more) (fits announced actual most sequence audit) (terms announced actual most sequence audit) wrong
    (all-counted announced actual most wrong.one_each (sequence ∷ more) differ audits)
