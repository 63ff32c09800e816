-- A session is that of some draws exactly if it keeps the invariants of a session and its counts are those of the draws.
use Rattle.std.proofs.Common.{◌≡◌, ℕ, ◌≤◌, List, [], ◌∷◌, map, length, take, get_or, All, refl, sym, ◌∙◌, ap, subst, arith}
use Rattle.std.proofs.lemmas.List.{length-map, length-take-le, get_or-map}
use Rattle.std.proofs.lemmas.List.Elements.{All-head, All-tail, All-map}
use Rattle.manifest.specs.declared.recorded.Recorded.{Recorded}
use Rattle.km_risk.specs.Counts.{draws_in}
use Rattle.km_risk.proofs.AllCounted.{all_counted}
use Rattle.assorters.specs.declared.seen.Seen.{Seen}
use Rattle.assorters.specs.Cards.{IsAssorter, discrepancy_of}
use Rattle.session_state.specs.Draws.{counts_after}
use Rattle.session_state.specs.Sessions.{Round, Session, IsRound, IsSession, risks_of}
use Rattle.session_state.specs.Draws.{Audited, AreRoundEnds, IsSessionOf, Agrees, risk_after, round_to, session_to}
use Rattle.session_state.specs.Laws.{SessionLaw}
use Rattle.session_state.proofs.SignedOff.{each_within}

module _ (limit gamma : ℕ) (claims : List Audited) (recorded : List Recorded) (seen : List Seen) (draws : List ℕ) where
  pub risks-are : (cs : List Audited) (k : ℕ) →
      risks_of (length recorded) gamma (map (λ claim. claim.margin) cs) (map (λ claim. counts_after claim.value recorded seen draws k) cs)
      ≡ map (risk_after gamma claims recorded seen draws k) cs
  risks-are [] k = refl
  risks-are (c ∷ cs) k = ap (λ rest. risk_after gamma claims recorded seen draws k c ∷ rest) (risks-are cs k)

  counted-are : (k : ℕ) → k ≤ length draws → (cs : List Audited) → All (λ claim. IsAssorter claim.value) cs →
      All (λ counts. draws_in counts ≡ k) (map (λ claim. counts_after claim.value recorded seen draws k) cs)
  counted-are k few cs assorters =
      All-map (λ counts. draws_in counts ≡ k) (λ claim. counts_after claim.value recorded seen draws k) cs
      (λ j c below.
      let claim : Audited = get_or cs j c in
      all_counted (map (discrepancy_of claim.value recorded seen) (take k draws)) (each_within claim.value (assorters j c below) recorded seen (take k draws))
      ∙ length-map (take k draws) (discrepancy_of claim.value recorded seen) ∙ length-take-le k draws few)

  kept : 1 ≤ length claims → All (λ claim. IsAssorter claim.value) claims → All (λ claim. (1 ≤ claim.margin) × (claim.margin ≤ length recorded)) claims →
      (ends : List ℕ) → AreRoundEnds (length draws) ends → IsSession (session_to limit gamma claims recorded seen draws ends)
  kept some assorters within ends are = record {
    some = rw (length-map claims (λ claim. claim.margin)) some;
    margins = All-map (λ margin. (1 ≤ margin) × (margin ≤ length recorded)) (λ claim. claim.margin) claims within;
    rising = λ i j d before below.
        let long = length-map ends (round_to gamma claims recorded seen draws) in
        rw (
          get_or-map (round_to gamma claims recorded seen draws) ends i 0 d (omega arith),
          get_or-map (round_to gamma claims recorded seen draws) ends j 0 d
              (omega arith),
        )
        (are.rising i j 0 before (omega arith));
    rounds = All-map (IsRound (session_to limit gamma claims recorded seen draws ends)) (round_to gamma claims recorded seen draws) ends
        (λ k e below. record {
          some = are.some k e below;
          each = length-map claims (λ claim. counts_after claim.value recorded seen draws (get_or ends k e)) ∙ sym (length-map claims (λ claim. claim.margin));
          all_draws = counted-are (get_or ends k e) (are.drawn k e below) claims assorters;
          printed = sym (risks-are claims (get_or ends k e));
        });
  }

  agreeing : (ends : List ℕ) → AreRoundEnds (length draws) ends →
      Agrees limit gamma claims recorded seen draws (session_to limit gamma claims recorded seen draws ends)
  agreeing ends are = record {
    cards = refl;
    margins = refl;
    same_limit = refl;
    same_gamma = refl;
    drawn = All-map (λ round. round.draws ≤ length draws) (round_to gamma claims recorded seen draws) ends are.drawn;
    counts =
        All-map (λ round. round.counts ≡ map (λ claim. counts_after claim.value recorded seen draws round.draws) claims)
        (round_to gamma claims recorded seen draws) ends
        (λ k e below. refl);
  }

  -- ---- the converse
  same_rounds : (rounds : List Round) →
      All (λ round. round.counts ≡ map (λ claim. counts_after claim.value recorded seen draws round.draws) claims) rounds →
      All (λ round. round.risks ≡ risks_of (length recorded) gamma (map (λ claim. claim.margin) claims) round.counts) rounds →
      rounds ≡ map (round_to gamma claims recorded seen draws) (map (λ round. round.draws) rounds)
  same_rounds [] counts risks = refl
  same_rounds (round ∷ rounds) counts risks =
      let c = All-head (λ round. round.counts ≡ map (λ claim. counts_after claim.value recorded seen draws round.draws) claims) round rounds counts in
      let r = All-head (λ round. round.risks ≡ risks_of (length recorded) gamma (map (λ claim. claim.margin) claims) round.counts) round rounds risks in
      let r' = r ∙ ap (risks_of (length recorded) gamma (map (λ claim. claim.margin) claims)) c ∙ risks-are claims round.draws in
      let rest = same_rounds rounds
      (All-tail (λ round. round.counts ≡ map (λ claim. counts_after claim.value recorded seen draws round.draws) claims) round rounds counts)
      (All-tail (λ round. round.risks ≡ risks_of (length recorded) gamma (map (λ claim. claim.margin) claims) round.counts) round rounds risks) in
      λ i. record { draws = round.draws; counts = c i; risks = r' i } ∷ rest i

  back : (session : Session) → IsSession session → Agrees limit gamma claims recorded seen draws session →
      IsSessionOf limit gamma claims recorded seen draws session
  back session is agrees =
      let ends : List ℕ = map (λ round. round.draws) session.rounds in
      let rounds = same_rounds session.rounds agrees.counts
      (λ k d below.
      (is.rounds k d below).printed
      ∙ ap (λ cards. risks_of cards session.gamma session.margins (get_or session.rounds k d).counts) agrees.cards
      ∙ ap (λ g. risks_of (length recorded) g session.margins (get_or session.rounds k d).counts) agrees.same_gamma
      ∙ ap (λ margins. risks_of (length recorded) gamma margins (get_or session.rounds k d).counts) agrees.margins) in
      record {
        ends = ends;
        are = record {
          rising = λ i j d before below.
              let long = length-map session.rounds (λ round. round.draws) in
              let none : Round = record { draws = 0; counts = []; risks = [] } in
              rw (
                get_or-map (λ round. round.draws) session.rounds i none d (omega arith),
                get_or-map (λ round. round.draws) session.rounds j none d (omega arith),
              )
              (is.rising i j none before (omega arith));
          some = All-map (λ e. 1 ≤ e) (λ round. round.draws) session.rounds (λ k d below. (is.rounds k d below).some);
          drawn = All-map (λ e. e ≤ length draws) (λ round. round.draws) session.rounds agrees.drawn;
        };
        is = λ i. record { cards = agrees.cards i; margins = agrees.margins i; limit = agrees.same_limit i; gamma = agrees.same_gamma i; rounds = rounds i };
      }

pub session_law : SessionLaw
session_law limit gamma claims recorded seen draws session some assorters within = (
  λ of'. (
    subst IsSession (sym of'.is) (kept limit gamma claims recorded seen draws some assorters within of'.ends of'.are),
    subst (Agrees limit gamma claims recorded seen draws) (sym of'.is) (agreeing limit gamma claims recorded seen draws of'.ends of'.are),
  ),
  λ both. back limit gamma claims recorded seen draws session both.0 both.1,
)
