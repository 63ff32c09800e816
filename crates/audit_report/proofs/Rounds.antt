-- The rounds of a session, one more at a time.
use Rattle.std.proofs.Common.{◌≡◌, ℕ, ◌+◌, ◌<◌, Bool, List, ◌∷◌, ◌++◌, length, zip, drop, get_or, flat_map, sym, ap, ap₂, subst, arith, append_assoc, ◌∙◌}
use Rattle.std.specs.Prelude.{slice_index, slice_index_or}
use Rattle.std.specs.List.{range_with_len}
use Rattle.std.proofs.lemmas.List.{drop_more, length-map}
use Rattle.std.proofs.lemmas.Slice.Zip.{length-zip}
use Rattle.km_risk.specs.Counts.{clean}
use Rattle.km_risk.specs.Printed.{printed_risk}
use Rattle.session_state.specs.Sessions.{Round, Session, IsRound, IsSession, is_confirmed_at}
use Rattle.audit_report.specs.Session.{claim_in, claim_line, draws_line, rounds_from}
use Rattle.audit_report.proofs.Lines.{same_lines}

-- ---- its lengths

module _ (session : Session) (is_session : IsSession session) (i : ℕ) (round : Round) (within : i < length session.rounds)
    (is : round ≡ get_or session.rounds i round) where
  is_round : IsRound session round
  is_round = subst (IsRound session) (sym is) (is_session.rounds i round within)

  pub counts-long : length round.counts ≡ length session.margins
  counts-long = is_round.each

  pub risks-long : length round.risks ≡ length session.margins
  risks-long =
      let long : length (zip session.margins round.counts) ≡ length session.margins = (let e = length-zip session.margins round.counts in
      omega (arith, e, counts-long)) in
      ap length is_round.printed ∙ length-map (zip session.margins round.counts) (λ claim. printed_risk session.cards claim.0 session.gamma claim.1) ∙ long

-- ---- its lines

pub rounds_more : (session : Session) (i : ℕ) (round : Round) (confirmed : ℕ → Bool) (text headed told whole : List ℕ) →
    i < length session.rounds → round ≡ get_or session.rounds i round →
    headed ≡ text ++ draws_line (i + 1) round.draws →
    told ≡ headed ++ flat_map (claim_in session.margins round confirmed) (range_with_len 0 (length session.margins)) →
    ((j : ℕ) → j < length session.margins → confirmed j ≡ is_confirmed_at session (i + 1) j) →
    text ++ rounds_from session (i + 1) (drop i session.rounds) ≡ whole →
    told ++ rounds_from session (i + 1 + 1) (drop (i + 1) session.rounds) ≡ whole
rounds_more session i round confirmed text headed told whole within is head claims same so_far =
    let n = length session.margins in
    let rest = rounds_from session (i + 1 + 1) (drop (i + 1) session.rounds) in
    let line = draws_line (i + 1) round.draws in
    let lines = flat_map (claim_in session.margins round (is_confirmed_at session (i + 1))) (range_with_len 0 n) in
    let alike : flat_map (claim_in session.margins round confirmed) (range_with_len 0 n) ≡ lines =
    same_lines (claim_in session.margins round confirmed) (claim_in session.margins round (is_confirmed_at session (i + 1))) 0 n (λ j below.
    ap (claim_line (j + 1) (slice_index session.margins j) (slice_index_or round.counts j (clean 0)) (slice_index round.risks j))
    (same j (omega (arith, below)))) in
    let left : drop i session.rounds ≡ round ∷ drop (i + 1) session.rounds = drop_more session.rounds i round within
    ∙ ap (λ r. r ∷ drop (i + 1) session.rounds) (sym is) in
    ap (λ t. t ++ rest) (claims ∙ ap₂ (λ (s t : List ℕ). s ++ t) head alike)
    ∙ append_assoc (text ++ line) lines rest
    ∙ append_assoc text line (lines ++ rest)
    ∙ ap (λ t. text ++ t) (sym (append_assoc line lines rest))
    ∙ sym (ap (λ rounds. text ++ rounds_from session (i + 1) rounds) left)
    ∙ so_far
