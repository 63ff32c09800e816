-- One more round: its counts are those of all cards that are drawn, and its risks are those of these counts.
use Rattle.std.proofs.Common.{◌≡◌, ◌∙◌, ℕ, All, get_or, List, length, map, sym, ap, arith}
use Rattle.std.proofs.lemmas.List.{take_all}
use Rattle.manifest.specs.declared.recorded.Recorded.{Recorded}
use Rattle.assorters.specs.declared.seen.Seen.{Seen}
use Rattle.km_risk.specs.Factor.{IsSetting}
use Rattle.session_state.specs.Content.{Content, IsSound}
use Rattle.session_state.specs.Claims.{audited_by}
use Rattle.session_state.specs.Draws.{Audited, counts_after, risk_after, round_to}
use Rattle.session_state.specs.Sessions.{Round, risks_of}
use Rattle.session_state.proofs.Claims.{same-margins}
use Rattle.session_state.proofs.Replayed.{risks-are}
use Rattle.audit_session.specs.declared.compared.Drawn.{Drawn}
use Rattle.audit_session.specs.Going.{all_counts, drawn_at}
use Rattle.audit_session.proofs.Advanced.{counts-are}

pub round-is : (gamma : ℕ) (values : List (List ℕ → ℕ)) (margins : List ℕ) (recorded : List Recorded) (seen : List Seen) (ds : List ℕ) (draws : ℕ) →
    length margins ≡ length values → length (map (drawn_at recorded seen) ds) ≡ draws →
    ◌≡◌ {A = Round} (record {
      draws = length (map (drawn_at recorded seen) ds);
      counts = all_counts values (map (drawn_at recorded seen) ds);
      risks = risks_of (length recorded) gamma margins (all_counts values (map (drawn_at recorded seen) ds));
    }) (round_to gamma (audited_by values margins) recorded seen ds draws)
round-is gamma values margins recorded seen ds draws each long =
    let drawn : List Drawn = map (drawn_at recorded seen) ds in
    let claims : List Audited = audited_by values margins in
    let counts-to : all_counts values drawn ≡ map (λ claim. counts_after claim.value recorded seen ds draws) claims =
    ap (all_counts values) (sym (take_all draws drawn (omega (arith, long)))) ∙ counts-are values margins each recorded seen ds draws in
    let moved : risks_of (length recorded) gamma margins (all_counts values drawn)
    ≡ risks_of (length recorded) gamma (map (λ claim. claim.margin) claims) (map (λ claim. counts_after claim.value recorded seen ds draws) claims) =
    λ i. risks_of (length recorded) gamma (sym (same-margins values margins each) i) (counts-to i) in
    let risks-to : risks_of (length recorded) gamma margins (all_counts values drawn) ≡ map (risk_after gamma claims recorded seen ds draws) claims =
    moved ∙ risks-are 0 gamma claims recorded seen ds claims draws in
    λ i. record { draws = long i; counts = counts-to i; risks = risks-to i }

-- the margins of a session are within the limits of the risk
pub settings : (content : Content) (cards gamma : ℕ) (margins : List ℕ) → IsSound content → cards ≡ content.session.cards → gamma ≡ content.session.gamma →
    margins ≡ content.session.margins → All (λ margin. IsSetting cards margin gamma) margins
settings content cards gamma margins sound same-cards same-gamma same k d below =
    let within = sound.session.margins k d (rw (← same) below) in
    let at = ap (λ ms. get_or ms k d) same in
    record {
      margin_positive = omega (arith, within.0, at);
      margin_within = omega (arith, within.1, at, same-cards);
      cards_within = omega (arith, sound.limits.most_cards, same-cards);
      gamma_positive = omega (arith, sound.limits.some_gamma, same-gamma);
      gamma_within = omega (arith, sound.limits.most_gamma, same-gamma);
    }

-- a round over the same cards with the same margins is the same
pub over-same : (values : List (List ℕ → ℕ)) (cards cards' gamma gamma' : ℕ) (margins margins' : List ℕ) (drawn drawn' : List Drawn) →
    cards ≡ cards' → gamma ≡ gamma' → margins ≡ margins' → drawn ≡ drawn' →
    ◌≡◌ {A = Round}
    (record { draws = length drawn; counts = all_counts values drawn; risks = risks_of cards gamma margins (all_counts values drawn) })
    (record { draws = length drawn'; counts = all_counts values drawn'; risks = risks_of cards' gamma' margins' (all_counts values drawn') })
over-same values cards cards' gamma gamma' margins margins' drawn drawn' same-cards same-gamma same-margins' same =
    λ i. record {
      draws = length (same i);
      counts = all_counts values (same i);
      risks = risks_of (same-cards i) (same-gamma i) (same-margins' i) (all_counts values (same i));
    }
