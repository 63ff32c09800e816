-- What is printed for a session: its values, and its rounds with the counts and the risk of each claim.
use Rattle.std.specs.Prelude.{ℕ, ◌+◌, Bool, List, [], ◌∷◌, ◌++◌, length, flat_map, slice_index, slice_index_or, codes}
use Rattle.std.specs.Fmt.{decimal}
use Rattle.std.specs.List.{range_with_len}
use Rattle.irv_base.specs.Names.{Id}
use Rattle.km_risk.specs.declared.draws.Counts.{Counts}
use Rattle.km_risk.specs.Counts.{clean}
use Rattle.report.specs.Risks.{counts_text, risk_text, signed_off_line, state_end}
use Rattle.session_state.specs.Content.{Content}
use Rattle.session_state.specs.Sessions.{Round, Session, is_confirmed_at, is_signed_off}

-- ---- a claim

-- the line of claim number j, counted from 1
abbrev pub claim_line : ℕ → ℕ → Counts → ℕ → Bool → List ℕ
claim_line j margin counts risk confirmed =
    codes "assertion " ++ decimal j ++ codes " margin " ++ decimal margin
    ++ codes " counts " ++ counts_text counts ++ codes " risk " ++ risk_text risk
    ++ state_end confirmed

-- the line of the claim with this index, counted from 0, in a round
abbrev pub claim_in : List ℕ → Round → (ℕ → Bool) → ℕ → List ℕ
claim_in margins round is_confirmed claim =
    claim_line (claim + 1) (slice_index margins claim) (slice_index_or round.counts claim (clean 0))
    (slice_index round.risks claim) (is_confirmed claim)

-- ---- the rounds

-- the line of round number i, counted from 1, with all draws so far
abbrev pub draws_line : ℕ → ℕ → List ℕ
draws_line i draws = codes "round " ++ decimal i ++ codes " draws " ++ decimal draws ++ codes "\n"

module _ (session : Session) where
  abbrev pub round_lines : ℕ → Round → List ℕ
  round_lines i round =
      draws_line i round.draws
      ++ flat_map (claim_in session.margins round (is_confirmed_at session i))
      (range_with_len 0 (length session.margins))

  -- the lines of these rounds, the first of which has number i
  abbrev pub rounds_from : ℕ → List Round → List ℕ
  rounds_from i [] = []
  rounds_from i (round ∷ rounds) = round_lines i round ++ rounds_from (i + 1) rounds

-- ---- the session

abbrev pub head_lines : Id → ℕ → ℕ → ℕ → List ℕ → List ℕ
head_lines contest cards limit gamma seed =
    codes "contest " ++ contest ++ codes "\ncards " ++ decimal cards ++ codes "\nlimit "
    ++ decimal limit
    ++ codes "\ngamma " ++ decimal gamma ++ codes "\nseed " ++ seed ++ codes "\n"

abbrev pub session_table : Content → List ℕ
session_table content =
    let session = content.session in
    head_lines content.contest session.cards session.limit session.gamma content.seed
    ++ rounds_from session 1 session.rounds ++ signed_off_line (is_signed_off session)
