-- What the risk limit counts: sessions that continued with the draws of a seed.
use Rattle.std.specs.Prelude.{◌≡◌, ℕ, ◌-◌, ◌≤◌, List, [], length, slice_index_or, All, None, IfSome, IsTrue}
use Rattle.manifest.specs.declared.recorded.Recorded.{Recorded}
use Rattle.km_risk.specs.Reach.{IsSequence}
use Rattle.assorters.specs.Cards.{IsAssorter}
use Rattle.session_state.specs.Claims.{audited_by}
use Rattle.session_state.specs.Content.{Content, IsSound}
use Rattle.session_state.specs.Readings.{IsReading}
use Rattle.session_state.specs.RiskOfValues.{MayBeSignedOff}
use Rattle.session_state.specs.Sessions.{Session, is_signed_off}
use Rattle.session_state.specs.Draws.{Audited, IsSessionOf}
use Rattle.audit_session.specs.Going.{all_seen, drawn_cards, next_session}
use Rattle.audit_session.specs.Refusals.{refusal}
use Rattle.seen_file.specs.Seen.{Entry, seen_in}

-- each drawn card that has a record of what is seen is missing, or found with its actual ranking; nothing is required of other cards
abbrev pub AreTrueEntries : List (List ℕ) → List Entry → List ℕ → Type 0
AreTrueEntries actual entries drawn =
    All (λ card. IfSome (seen_in entries card) (IsReading (slice_index_or actual (card - 1) [])))
    drawn

-- a session that `advance` made of some draws, by its contract, and that is signed off, is counted; also among sequences of more draws,
-- however many the seed then gives
abbrev pub AdvancedIsCounted : Type 0
AdvancedIsCounted =
    (limit gamma draws most : ℕ) (seed : List ℕ) (claims : List Audited) (recorded : List Recorded)
    (entries : List Entry)
    (actual : List (List ℕ)) (session : Session) →
    1 ≤ length recorded → draws ≤ most → length actual ≡ length recorded →
    AreTrueEntries actual entries (drawn_cards seed (length recorded) draws) →
    IsSessionOf limit gamma claims recorded (all_seen entries (length recorded))
    (drawn_cards seed (length recorded) draws) session →
    IsTrue (is_signed_off session) →
    IsSequence (length recorded) most (drawn_cards seed (length recorded) most)
    × MayBeSignedOff limit gamma claims recorded actual (drawn_cards seed (length recorded) most)

-- a session continues with a round, whatever its earlier rounds say
pub record GoesOn (content : Content) (values : List (List ℕ → ℕ)) (recorded : List Recorded)
    (entries : List Entry) (draws : ℕ) : Type 0 where
  -- these are the requirements of `advance_by`, and what its types ensure
  pub sound : IsSound content
  pub cards : content.session.cards ≡ length recorded
  pub each : length content.session.margins ≡ length values
  pub assorters : All IsAssorter values
  pub some : 1 ≤ draws
  -- this is what `advance_by` promises if it answers
  pub not_refused : refusal content values recorded entries draws ≡ None

-- a session that has continued and is signed off is counted
abbrev pub NextIsCounted : Type 0
NextIsCounted =
    (content : Content) (draws most : ℕ) (values : List (List ℕ → ℕ)) (recorded : List Recorded)
    (entries : List Entry) (actual : List (List ℕ)) →
    GoesOn content values recorded entries draws → draws ≤ most → length actual ≡ length recorded →
    AreTrueEntries actual entries (drawn_cards content.seed (length recorded) draws) →
    IsTrue (is_signed_off (next_session content values recorded entries draws).session) →
    IsSequence (length recorded) most (drawn_cards content.seed (length recorded) most)
    × MayBeSignedOff content.session.limit content.session.gamma
    (audited_by values content.session.margins) recorded actual
    (drawn_cards content.seed (length recorded) most)
