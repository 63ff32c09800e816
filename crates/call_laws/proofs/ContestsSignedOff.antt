-- If its cards may elect another candidate, audits of all contests sign a contest off on few of all sequences of draws.
use Rattle.std.proofs.Common.{◌≡◌, ◌≢◌, ◌∙◌, ℕ, zero, suc, ◌<◌, ◌≤◌, true, List, [], ◌∷◌, length, map, Option, None, Some, Result, Ok, Err, All, AllPairs, sym, ap, subst, arith}
use Rattle.std.specs.List.{slice_get}
use Rattle.std.proofs.lemmas.List.{length-map}
use Rattle.std.proofs.lemmas.List.Elements.{All-head, All-weaker}
use Rattle.csv_rows.specs.Fields.{numbered_records}
use Rattle.irv_base.specs.Names.{Id}
use Rattle.irv_base.specs.declared.limits.TheConstants.{GREATEST_LIMIT}
use Rattle.ballots.specs.Ballots.{BallotFile}
use Rattle.ballots.specs.Grammar.{Contest, ballots_of, contests_of}
use Rattle.ballots.specs.declared.fault.BRule.{BRule}
use Rattle.file_fault.specs.Refusals.{Refusal}
use Rattle.ballot_reader.specs.Laws.{IsOfEach, contests_listed}
use Rattle.ballot_reader.proofs.Each.{contests_are_each}
use Rattle.ballot_laws.proofs.Sound.{read_is_sound as read_ballots_are_sound}
use Rattle.manifest.specs.Cards.{Batches, cards_of}
use Rattle.manifest.specs.Linked.{first_without_card, linked_of, recorded_of}
use Rattle.manifest.specs.Manifest.{manifest_of}
use Rattle.manifest.proofs.Spelled.{records_spell_batches}
use Rattle.assertion_file.specs.Content.{Content}
use Rattle.km_risk.specs.Exact.{millionths_in_one}
use Rattle.km_risk.specs.Reach.{IsSequence}
use Rattle.session_state.specs.Claims.{audited}
use Rattle.session_state.specs.RiskOfValues.{AreSignedOff, AreTerms, MayBeSignedOff}
use Rattle.budget.specs.declared.budget.Budget.TheVariants.{Nodes}
use Rattle.contest_search.specs.Found.{IsFoundIn}
use Rattle.contest_search.proofs.Certificates.{certificate-one}
use Rattle.contest_set.specs.Ends.{AreWithinLimits, IsAudited}
use Rattle.contest_set.specs.declared.end.ContestEnd.TheVariants.{Audited}
use Rattle.contest_set.specs.declared.terms.SharedTerms.{SharedTerms}
use Rattle.contest_set.proofs.Joining.{each-linked}
use Rattle.contest_set.proofs.RiskLimit.{each_risk_limit, end_is_counted}
use Rattle.contests_command.specs.Contests.{terms_of}
use Rattle.raire_cli.specs.CardFiles.{CardBytes}
use Rattle.raire_cli.specs.Contests.{AuditsContests}
use Rattle.call_laws.specs.ContestsLimit.{drawn}
use Rattle.call_laws.specs.ContestsSignedOff.{AnnouncedContest, ContestSignedOffAreFew, IsContestSignedOffOn}
use Rattle.call_laws.proofs.ContestsAlone.{end-of}
use Rattle.call_laws.proofs.ContestsLimit.{within_limits}
use Rattle.call_laws.proofs.PollsLimit.{some_card}
use Rattle.raire_cli.proofs.Said.{only}

-- a contest among others is read by its id
read_by_id : (bytes : List ℕ) (list : List BallotFile) (place : ℕ) (ballots : BallotFile) → contests_of bytes ≡ Ok list → slice_get list place ≡ Some ballots →
    (asked : Option Id) × (ballots_of bytes asked ≡ Ok ballots)
read_by_id bytes list place ballots is at =
    by (contests_listed bytes) (subst (IsOfEach (ballots_of bytes) (contests_listed bytes)) is (contests_are_each bytes)) where
      one : (contests : List Contest) (files : List BallotFile) (k : ℕ) →
          map (λ (contest : Contest). ballots_of bytes (Some contest.id)) contests ≡ map Ok files →
          slice_get files k ≡ Some ballots → (asked : Option Id) × (ballots_of bytes asked ≡ Ok ballots)
      one contests [] k each at = absurd (cc at)
      one [] (file ∷ files) k each at = absurd (cc each)
      one (contest ∷ contests) (file ∷ files) zero each at =
          let first : ballots_of bytes (Some contest.id) ≡ Ok file = cc each in
          let same : file ≡ ballots = cc at in
          (Some contest.id, first ∙ ap Ok same)
      one (contest ∷ contests) (file ∷ files) (suc k) each at =
          let rest : map (λ (contest : Contest). ballots_of bytes (Some contest.id)) contests ≡ map Ok files = cc each in
          one contests files k rest at

      by : (listed : Result (List Contest) (Refusal BRule)) → IsOfEach (ballots_of bytes) listed (Ok list) →
          (asked : Option Id) × (ballots_of bytes asked ≡ Ok ballots)
      by (Err refusal) (other, all) = absurd (cc other)
      by (Ok contests) each = one contests list place each at

module _ (announced : AnnouncedContest) (actual : List (List ℕ)) (most : ℕ) where
  -- the sequence has this number of draws, and is counted
  abbrev Counted : Batches → ℕ → ℕ → Content → List ℕ → Type 0
  Counted batches limit gamma file sequence =
      IsSequence (length (linked_of batches announced.ballots)) most sequence
      × MayBeSignedOff limit gamma (audited file) (linked_of batches announced.ballots) actual sequence

  module _ (sequence : List ℕ) (on : IsContestSignedOffOn announced actual most sequence) where
    abbrev batches : Batches
    batches = on.audit.inputs.batches

    abbrev its_terms : SharedTerms
    its_terms = terms_of on.audit.asks.task

    limits : AreWithinLimits its_terms
    limits = within_limits on.audit.asks

    same_list : on.audit.inputs.list ≡ announced.list
    same_list = only (subst (λ (bytes : CardBytes). contests_of bytes.ballots ≡ Ok on.audit.inputs.list) on.same_files on.audit.say.ballots) announced.ballots_say

    same_batches : batches ≡ announced.batches
    same_batches = only (subst (λ (bytes : CardBytes). manifest_of bytes.manifest ≡ Ok batches) on.same_files on.audit.say.manifest) announced.manifest_says

    listed : slice_get on.audit.inputs.list announced.place ≡ Some announced.ballots
    listed = ap (λ list. slice_get list announced.place) same_list ∙ announced.listed

    placed : first_without_card announced.batches announced.ballots ≡ None
    placed = subst (λ b. first_without_card b announced.ballots ≡ None) same_batches
        (each-linked batches on.audit.inputs.list announced.place announced.ballots on.audit.placed listed)

    is_audited : IsAudited batches its_terms announced.ballots on.entries on.file on.counts.items on.risks.items true
    is_audited =
        let (own, at, is) = end-of batches its_terms on.audit.inputs.list on.audit.inputs.seen on.audit.ends announced.place announced.ballots
        (Audited on.file on.counts on.risks true) on.audit.are listed on.signed_off in
        let both : Some own ≡ Some on.entries = sym at ∙ on.seen in
        let same : own ≡ on.entries = cc both in
        subst (λ seen. IsAudited batches its_terms announced.ballots seen on.file on.counts.items on.risks.items true) same is

    same_file : on.file ≡ announced.file
    same_file = certificate-one announced.ballots on.file announced.file is_audited.found.is announced.certificate

    terms : AreTerms announced.limit announced.gamma
    terms =
        let most_limit : on.audit.asks.task.limit ≤ GREATEST_LIMIT = limits.most_limit in record {
          below_one = subst (λ limit. limit < millionths_in_one) on.same_limit (omega (arith, most_limit));
          positive = subst (λ gamma. 1 ≤ gamma) on.same_gamma limits.some_gamma;
        }

    own : length actual ≡ length (cards_of announced.batches) →
        Counted batches on.audit.asks.task.limit on.audit.asks.task.gamma on.file sequence
    own long =
        let cards : length (cards_of batches) ≡ length (cards_of announced.batches) = ap (λ b. length (cards_of b)) same_batches in
        let each : length (linked_of batches announced.ballots) ≡ length (cards_of batches) =
        length-map (cards_of batches) (recorded_of announced.ballots) in
        let (is_sequence, may) = end_is_counted batches its_terms most announced.ballots on.entries on.file on.counts.items on.risks.items actual limits on.few
        (some_card on.audit.bytes.cards.manifest batches on.audit.say.manifest) (long ∙ sym cards) is_audited on.true_entries in
        subst (Counted batches on.audit.asks.task.limit on.audit.asks.task.gamma on.file) (sym on.of_seed)
        (subst (λ n. IsSequence n most (drawn on.audit most)) (sym each) is_sequence, may)

    counted : length actual ≡ length (cards_of announced.batches) →
        Counted announced.batches announced.limit announced.gamma announced.file sequence
    counted long =
        subst (λ file. Counted announced.batches announced.limit announced.gamma file sequence) same_file
        (subst (λ gamma. Counted announced.batches announced.limit gamma on.file sequence) on.same_gamma
        (subst (λ limit. Counted announced.batches limit on.audit.asks.task.gamma on.file sequence) on.same_limit
        (subst (λ b. Counted b on.audit.asks.task.limit on.audit.asks.task.gamma on.file sequence) same_batches (own long))))

  all_counted : length actual ≡ length (cards_of announced.batches) → (sequences : List (List ℕ)) → AllPairs ◌≢◌ sequences →
      All (IsContestSignedOffOn announced actual most) sequences →
      AreSignedOff announced.limit announced.gamma (audited announced.file) (linked_of announced.batches announced.ballots) actual most sequences
  all_counted long sequences differ audits = record {
    drawn = All-weaker (IsContestSignedOffOn announced actual most) (IsSequence (length (linked_of announced.batches announced.ballots)) most)
        (λ sequence on. (counted sequence on long).0) sequences audits;
    differ = differ;
    each = All-weaker (IsContestSignedOffOn announced actual most)
        (MayBeSignedOff announced.limit announced.gamma (audited announced.file) (linked_of announced.batches announced.ballots) actual)
        (λ sequence on. (counted sequence on long).1) sequences audits;
  }

pub contest_signed_off_are_few : ContestSignedOffAreFew
contest_signed_off_are_few announced actual most [] wrong differ audits = omega arith
contest_signed_off_are_few announced actual most (sequence ∷ more) wrong differ audits =
    let on : IsContestSignedOffOn announced actual most sequence = All-head (IsContestSignedOffOn announced actual most) sequence more audits in
    let (asked, read) = read_by_id announced.bytes.ballots announced.list announced.place announced.ballots announced.ballots_say announced.listed in
    let found = subst (λ file. IsFoundIn (Nodes on.audit.asks.task.nodes) announced.ballots file) (same_file announced actual most sequence on)
    (is_audited announced actual most sequence on).found in
    each_risk_limit (record (terms_of on.audit.asks.task) { limit = announced.limit; gamma = announced.gamma }) most announced.bytes.ballots asked
    announced.batches announced.ballots announced.file actual (sequence ∷ more)
    (((records_spell_batches (numbered_records announced.bytes.manifest) announced.batches).0 announced.manifest_says).sound)
    ((read_ballots_are_sound asked (numbered_records announced.bytes.ballots) announced.ballots read).0) read (placed announced actual most sequence on) found
    (terms announced actual most sequence on) wrong (all_counted announced actual most wrong.one_each (sequence ∷ more) differ audits)
