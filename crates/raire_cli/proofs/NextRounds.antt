-- A session that has continued with a round that wasn't refused, whatever its claims are.
use Rattle.std.proofs.Common.{◌≡◌, ℕ, ◌<◌, ◌≤◌, List, length, map, take, get_or, None, Some, All, Result, Ok, Err, IsTrue, refl, sym, ap, subst, ◌∙◌, arith}
use Rattle.std.proofs.lemmas.List.{get_or-map, length-map}
use Rattle.std.proofs.lemmas.List.FromFn.{length-map-range_with_len}
use Rattle.sha2.specs.Sha256.{sha256}
use Rattle.ballots.specs.Ballots.{BallotFile}
use Rattle.ballots.specs.Grammar.{ballots_of}
use Rattle.manifest.specs.Cards.{Batches}
use Rattle.manifest.specs.Linked.{first_without_card}
use Rattle.manifest.specs.Manifest.{manifest_of}
use Rattle.manifest.specs.declared.recorded.Recorded.{Recorded}
use Rattle.assorters.specs.Cards.{IsAssorter, discrepancy_of}
use Rattle.km_risk.specs.Exact.{is_within}
use Rattle.km_risk.specs.Reach.{IsSequence}
use Rattle.sampler.specs.Draws.{drawn_card}
use Rattle.seen_file.specs.Seen.{Entry}
use Rattle.session_state.specs.Claims.{audited_by}
use Rattle.session_state.specs.Content.{Content, IsSound, with_round}
use Rattle.session_state.specs.Draws.{Audited, IsSessionOf, round_to}
use Rattle.session_state.specs.RiskOfValues.{MayBeSignedOff}
use Rattle.session_state.specs.Sessions.{is_signed_off}
use Rattle.session_state.proofs.Claims.{each-assorter, same-margins}
use Rattle.session_state.proofs.SignedOff.{signed_off_law}
use Rattle.audit_session.specs.Going.{next_session as with_next_round}
use Rattle.audit_session.specs.Laws.{AreTrueEntries}
use Rattle.audit_session.specs.Refusals.{last_draws}
use Rattle.audit_session.proofs.Advanced.{of-draws, refusal-is}
use Rattle.audit_session.proofs.IsCounted.{advanced_is_counted}
use Rattle.session_file.specs.Reading.{session_of}
use Rattle.session_file.specs.Text.{session_text}
use Rattle.cli_base.specs.Outcome.{Verdict, Answered, Refused}
use Rattle.cli_base.specs.declared.outcome.AnswerKind.{AnswerKind}
use Rattle.input_files.specs.Refusals.{refused_ballots}
use Rattle.input_files.proofs.Going.{OnlyRefuses}
use Rattle.session_rounds.specs.Refusals.{other_digest, refused_by}
use Rattle.session_rounds.specs.Rounds.{session_in}
use Rattle.session_rounds.specs.Rounds.{Compared, changed, had_as_many, kind_of, next_session, same_ballots, same_manifest, session_to_go_on, unseen, verdict_of}
use Rattle.raire_cli.specs.NextRound.{IsNextRound, WereWithin, cards, drawn, seen}
use Rattle.raire_cli.proofs.Said.{said_cards, some_ok, then_ok, told_ok, unless_ok}
use Rattle.raire_cli.proofs.Unrefused.{all_recorded, not_as_many, same_digest, unchanged}

-- what its verdict says
pub next_of : (judged : Result Content Verdict) (kind : AnswerKind) (text : List ℕ) → OnlyRefuses judged → Answered kind text ≡ verdict_of judged →
    (next : Content) × (judged ≡ Ok next) × (kind ≡ kind_of next.session) × (text ≡ session_text next)
next_of (Ok next) kind text only is = (next, refl, cc is, cc is)
next_of (Err (Answered k t)) kind text only is = absurd only
next_of (Err (Refused name t)) kind text only is = absurd (cc is)

-- ---- what the files say

pub said_session : (name : List ℕ) (draws : ℕ) (bytes : List ℕ) (session : Content) → session_to_go_on name draws bytes ≡ Ok session →
    (session_of bytes ≡ Some session) × (last_draws session.session.rounds < draws)
said_session name draws bytes session is =
    let (read, first, rest) = then_ok (session_in name bytes) _ session is in
    let (more, same) = unless_ok (had_as_many name draws read.session.rounds) _ session rest in
    let read-is : read ≡ session = cc same in (
      some_ok (session_of bytes) _ session (first ∙ ap Ok read-is),
      subst (λ (s : Content). last_draws s.session.rounds < draws) read-is (not_as_many name draws read.session.rounds more),
    )

pub said_ballots : (name : List ℕ) (session : Content) (bytes : List ℕ) (ballots : BallotFile) → same_ballots name session bytes ≡ Ok ballots →
    (session.digests.ballots ≡ sha256 bytes) × (ballots_of bytes (Some session.contest) ≡ Ok ballots)
said_ballots name session bytes ballots is =
    let (digest, read) = unless_ok (other_digest name session.digests.ballots bytes) _ ballots is in
    (same_digest name session.digests.ballots bytes digest, told_ok (refused_ballots name) (ballots_of bytes (Some session.contest)) ballots read)

pub said_manifest : (name manifest : List ℕ) (session : Content) (ballots : BallotFile) (bytes : List ℕ) (batches : Batches) →
    same_manifest name manifest session ballots bytes ≡ Ok batches →
    (session.digests.manifest ≡ sha256 bytes) × (manifest_of bytes ≡ Ok batches) × (first_without_card batches ballots ≡ None)
said_manifest name manifest session ballots bytes batches is =
    let (digest, rest) = unless_ok (other_digest manifest session.digests.manifest bytes) _ batches is in
    let (read, placed) = said_cards name ballots manifest bytes batches rest in
    (same_digest manifest session.digests.manifest bytes digest, read, placed)

-- ---- the session and its claims

-- the session fits these values, which are those of its claims, and what is recorded for the cards
pub record Fitting (session : Content) (recorded : List Recorded) (values : List (List ℕ → ℕ)) (claims : List Audited) : Type 0 where
  pub sound : IsSound session
  pub same_cards : session.session.cards ≡ length recorded
  pub each : length session.session.margins ≡ length values
  pub assorters : All IsAssorter values
  pub same_claims : audited_by values session.session.margins ≡ claims

module _ (session : Content) (recorded : List Recorded) (entries : List Entry) (values : List (List ℕ → ℕ)) (claims : List Audited)
    (fits : Fitting session recorded values claims) where
  abbrev compared : Compared
  compared = record { recorded = recorded; entries = entries }

  -- ---- the round

  -- it isn't refused, so its rounds are those of the draws
  pub next_round : (name names : List ℕ) (draws : ℕ) (next : Content) → last_draws session.session.rounds < draws →
      next_session name names draws session values compared ≡ Ok next → IsNextRound session recorded entries claims draws next
  next_round name names draws next more is =
      let (told, rest) = unless_ok (refused_by name names (unseen session compared draws)) _ next is in
      let (same, added) = unless_ok (refused_by name names (changed session values compared draws)) _ next rest in
      let all_told = all_recorded name names session.seed (length recorded) entries draws told in
      let unchanged = unchanged name names values _ 1 session.session.rounds same in
      let next-is : with_next_round session values recorded entries draws ≡ next = cc added in
      let of : IsSessionOf session.session.limit session.session.gamma (audited_by values session.session.margins) recorded
      (seen session recorded entries) (drawn session recorded entries draws) (with_next_round session values recorded entries draws).session =
      of-draws session values recorded entries draws fits.same_cards fits.each fits.assorters fits.sound (omega (arith, more))
      (refusal-is session values recorded entries draws more all_told ∙ unchanged) in
      record {
        more = more;
        all_told = all_told;
        added = sym next-is ∙ ap (λ claims. with_round session (round_to session.session.gamma claims recorded (seen session recorded entries)
            (drawn session recorded entries draws) draws)) fits.same_claims;
        of_draws =
            subst (λ claims. IsSessionOf session.session.limit session.session.gamma claims recorded (seen session recorded entries)
            (drawn session recorded entries draws) next.session) fits.same_claims
            (subst (λ (content : Content). IsSessionOf session.session.limit session.session.gamma (audited_by values session.session.margins) recorded
            (seen session recorded entries) (drawn session recorded entries draws) content.session) next-is of);
      }

  -- ---- its risks

  pub some_card : 1 ≤ length recorded
  some_card =
      let first = fits.sound.session.margins 0 0 fits.sound.session.some in
      omega (arith, first, fits.same_cards)

  margins-are : session.session.margins ≡ map (λ claim. claim.margin) claims
  margins-are = sym (same-margins values session.session.margins fits.each) ∙ ap (map (λ (claim : Audited). claim.margin)) fits.same_claims

  own-assorters : All (λ claim. IsAssorter claim.value) claims
  own-assorters = subst (All (λ (claim : Audited). IsAssorter claim.value)) fits.same_claims (each-assorter values session.session.margins fits.assorters)

  within : All (λ claim. claim.margin ≤ length recorded) claims
  within = λ k d below.
      let at = get_or-map (λ claim. claim.margin) claims k d 0 below in
      let here = fits.sound.session.margins k 0 (rw margins-are (rw (length-map claims (λ claim. claim.margin)) below)) in
      let same : get_or session.session.margins k 0 ≡ (get_or claims k d).margin = ap (λ ms. get_or ms k 0) margins-are ∙ at in
      omega (arith, here, same, fits.same_cards)

  pub were_within : (draws : ℕ) (next : Content) → IsNextRound session recorded entries claims draws next → IsTrue (is_signed_off next.session) →
      WereWithin session recorded entries claims draws
  were_within draws next is_next signed =
      let drew : length (drawn session recorded entries draws) ≡ draws = length-map-range_with_len (λ k. drawn_card session.seed k (length recorded)) 1 draws in
      let limits = fits.sound.limits in
      subst (λ most. All (λ claim. (k : ℕ) × (k ≤ most)
      × IsTrue (is_within (cards session recorded entries) claim.margin session.session.gamma session.session.limit
      (map (discrepancy_of claim.value recorded (seen session recorded entries)) (take k (drawn session recorded entries draws))))) claims) drew
      (signed_off_law session.session.limit session.session.gamma claims recorded (seen session recorded entries)
      (drawn session recorded entries draws) next.session
      some_card limits.some_gamma (omega (arith, limits.most_limit)) own-assorters within is_next.of_draws signed)

  -- ---- the risk limit counts it

  pub round_is_counted : (draws most : ℕ) (next : Content) (actual : List (List ℕ)) → IsNextRound session recorded entries claims draws next →
      IsTrue (is_signed_off next.session) → draws ≤ most → length actual ≡ length recorded →
      AreTrueEntries actual entries (drawn session recorded entries draws) →
      IsSequence (length recorded) most (drawn session recorded entries most)
      × MayBeSignedOff session.session.limit session.session.gamma claims recorded actual (drawn session recorded entries most)
  round_is_counted draws most next actual is_next signed few long true' =
      advanced_is_counted session.session.limit session.session.gamma draws most session.seed claims recorded entries actual next.session
      some_card few long true' is_next.of_draws signed
