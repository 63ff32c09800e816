-- What `advance` answers is among what is counted.
use Rattle.std.proofs.Common.{◌≡◌, ℕ, ◌≤◌, List, [], ◌∷◌, map, length, take, All, Option, refl, sym, ap, subst, ◌∙◌, arith}
use Rattle.std.specs.List.{range_with_len}
use Rattle.std.proofs.lemmas.List.Elements.{All-map, All-head, All-tail, All-weaker}
use Rattle.std.proofs.lemmas.List.FromFn.{length-map-range_with_len, take-map-range_with_len}
use Rattle.manifest.specs.declared.recorded.Recorded.{Recorded}
use Rattle.km_risk.specs.Counts.{counts_of}
use Rattle.km_risk.specs.Printed.{printed_risk}
use Rattle.km_risk.specs.Reach.{IsSequence}
use Rattle.sampler.specs.Draws.{drawn_card}
use Rattle.assorters.specs.declared.seen.Seen.{Seen}
use Rattle.assorters.specs.Cards.{discrepancy_of}
use Rattle.session_state.specs.Content.{IsSound}
use Rattle.session_state.specs.Readings.{AreReadings}
use Rattle.session_state.specs.Sessions.{Round, Session}
use Rattle.session_state.specs.Draws.{Audited, IsSessionOf, seen_of_all, round_to, session_to}
use Rattle.session_state.proofs.PartlySeen.{partly_seen_law}
use Rattle.session_state.specs.Claims.{audited_by}
use Rattle.audit_session.specs.Going.{drawn_cards, next_session}
use Rattle.audit_session.proofs.Advanced.{of-draws}
use Rattle.seen_file.specs.Seen.{seen_in}
use Rattle.audit_session.proofs.DrawnAlone.{seen_of_drawn, drawn-readings, of-drawn}
use Rattle.audit_session.specs.Laws.{AdvancedIsCounted, NextIsCounted}

-- the cards of draws are cards
drawn-sequence : (seed : List ℕ) (cards n : ℕ) → 1 ≤ cards → IsSequence cards n (drawn_cards seed cards n)
drawn-sequence seed cards n some = record {
  long = length-map-range_with_len (λ k. drawn_card seed k cards) 1 n;
  some = All-map (λ card. 1 ≤ card) (λ k. drawn_card seed k cards) (range_with_len 1 n) (λ i k below. omega arith);
  within = All-map (λ card. card ≤ cards) (λ k. drawn_card seed k cards) (range_with_len 1 n) (λ i k below. omega arith);
}

-- the first draws are the same, however many follow
first-drawn : (seed : List ℕ) (cards draws most end : ℕ) → draws ≤ most → end ≤ draws →
    take end (drawn_cards seed cards draws) ≡ take end (drawn_cards seed cards most)
first-drawn seed cards draws most end few within =
    take-map-range_with_len (λ k. drawn_card seed k cards) 1 draws end within
    ∙ sym (take-map-range_with_len (λ k. drawn_card seed k cards) 1 most end (omega arith))

module _ (limit gamma : ℕ) (claims : List Audited) (recorded : List Recorded) (seen : List Seen) where
  -- the counts of a round are only over its own draws
  round-same : (ds es : List ℕ) (end : ℕ) → take end ds ≡ take end es → round_to gamma claims recorded seen ds end ≡ round_to gamma claims recorded seen es end
  round-same ds es end same =
      let round : List ℕ → Round = λ first. record {
        draws = end;
        counts = map (λ claim. counts_of (map (discrepancy_of claim.value recorded seen) first)) claims;
        risks = map (λ claim. printed_risk (length recorded) claim.margin gamma (counts_of (map (discrepancy_of claim.value recorded seen) first))) claims;
      } in
      ap round same

  rounds-same : (ds es ends : List ℕ) → All (λ end. take end ds ≡ take end es) ends →
      map (round_to gamma claims recorded seen ds) ends ≡ map (round_to gamma claims recorded seen es) ends
  rounds-same ds es [] h = refl
  rounds-same ds es (end ∷ ends) h =
      let first = round-same ds es end (All-head (λ e. take e ds ≡ take e es) end ends h) in
      let rest = rounds-same ds es ends (All-tail (λ e. take e ds ≡ take e es) end ends h) in
      λ i. first i ∷ rest i

  -- so the session of the first draws is a session of all draws
  pub of-more : (ds es : List ℕ) (session : Session) → length ds ≤ length es → ((end : ℕ) → end ≤ length ds → take end ds ≡ take end es) →
      IsSessionOf limit gamma claims recorded seen ds session → IsSessionOf limit gamma claims recorded seen es session
  of-more ds es session few same of' = record {
    ends = of'.ends;
    are = record {
      rising = of'.are.rising;
      some = of'.are.some;
      drawn = All-weaker (λ end. end ≤ length ds) (λ end. end ≤ length es) (λ end within. omega arith) of'.ends of'.are.drawn;
    };
    is =
        of'.is
        ∙ ap (λ (rounds : List Round). record (session_to limit gamma claims recorded seen es of'.ends) { rounds = rounds })
        (rounds-same ds es of'.ends (All-weaker (λ end. end ≤ length ds) (λ end. take end ds ≡ take end es) same of'.ends of'.are.drawn));
  }

pub advanced_is_counted : AdvancedIsCounted
advanced_is_counted limit gamma draws most seed claims recorded entries actual session some few long true' of' signed =
    let cards : ℕ = length recorded in
    let ds : List ℕ = drawn_cards seed cards draws in
    let es : List ℕ = drawn_cards seed cards most in
    let looked_at : ℕ → Option Seen = seen_of_drawn ds (seen_in entries) in
    let seen : List Seen = seen_of_all looked_at cards in
    let first : IsSequence cards draws ds = drawn-sequence seed cards draws some in
    let more : length es ≡ most = length-map-range_with_len (λ k. drawn_card seed k cards) 1 most in (
      drawn-sequence seed cards most some,
      record {
        seen = seen;
        readings = subst (λ n. AreReadings actual (seen_of_all looked_at n)) long
            (partly_seen_law looked_at actual (λ card from to. drawn-readings ds (seen_in entries) actual true' card)).0;
        session = session;
        drawn = of-more limit gamma claims recorded seen ds es session (omega (arith, first.long))
            (λ end within. first-drawn seed cards draws most end few (omega (arith, first.long)))
            (of-drawn recorded (seen_in entries) ds first.some first.within limit gamma claims session of');
        signed_off = signed;
      },
    )

pub next_is_counted : NextIsCounted
next_is_counted content draws most values recorded entries actual on few long true' signed =
    let sound : IsSound content = on.sound in
    let first = sound.session.margins 0 0 sound.session.some in
    let card : 1 ≤ length recorded = omega (arith, first, on.cards) in
    advanced_is_counted content.session.limit content.session.gamma draws most content.seed (audited_by values content.session.margins) recorded entries actual
    (next_session content values recorded entries draws).session card few long true'
    (of-draws content values recorded entries draws on.cards on.each on.assorters sound on.some on.not_refused) signed
