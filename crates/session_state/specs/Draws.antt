-- The session that draws give: at the end of each round, the counts and risks of all claims over the draws so far.
use Rattle.std.specs.Prelude.{◌≡◌, ℕ, ◌<◌, ◌≤◌, Bool, Option, List, map, length, take, All, AllPairs, IsTrue}
use Rattle.std.specs.List.{range_with_len}
use Rattle.std.specs.Option.{unwrap_or}
use Rattle.manifest.specs.declared.recorded.Recorded.{Recorded}
use Rattle.assorters.specs.declared.seen.Seen.{Seen}
use Rattle.assorters.specs.declared.seen.Seen.TheVariants.{Missing}
use Rattle.assorters.specs.Cards.{discrepancy_of}
use Rattle.km_risk.specs.declared.draws.Counts.{Counts}
use Rattle.km_risk.specs.Counts.{counts_of}
use Rattle.km_risk.specs.Printed.{printed_risk}
use Rattle.session_state.specs.Sessions.{Round, Session, is_signed_off}

-- what is seen on each of this many cards if only some were looked at; every other card counts as missing
abbrev pub seen_of_all : (ℕ → Option Seen) → ℕ → List Seen
seen_of_all looked_at cards =
    map (λ card. unwrap_or (looked_at card) Missing) (range_with_len 1 cards)

-- the counts over the first k draws
abbrev pub counts_after : (List ℕ → ℕ) → List Recorded → List Seen → List ℕ → ℕ → Counts
counts_after value recorded seen draws k =
    counts_of (map (discrepancy_of value recorded seen) (take k draws))

-- what is audited for a claim: a function of rankings, and its margin in votes
pub record Audited : Type 0 where
  pub value : List ℕ → ℕ
  pub margin : ℕ

-- the numbers of draws at the ends of the rounds: they increase, and none is above this number
pub record AreRoundEnds (most : ℕ) (ends : List ℕ) : Type 0 where
  pub rising : AllPairs ◌<◌ ends
  pub some : All (λ end. 1 ≤ end) ends
  pub drawn : All (λ end. end ≤ most) ends

module _ (gamma : ℕ) (claims : List Audited) (recorded : List Recorded) (seen : List Seen)
    (draws : List ℕ) where
  -- the printed risk of a claim after the first k draws
  abbrev pub risk_after : ℕ → Audited → ℕ
  risk_after k claim =
      printed_risk (length recorded) claim.margin gamma
      (counts_after claim.value recorded seen draws k)

  abbrev pub round_to : ℕ → Round
  round_to end = record {
    draws = end;
    counts = map (λ claim. counts_after claim.value recorded seen draws end) claims;
    risks = map (risk_after end) claims;
  }

module _ (limit gamma : ℕ) (claims : List Audited) (recorded : List Recorded) (seen : List Seen)
    (draws : List ℕ) where
  -- the session with a round up to each of these ends
  abbrev pub session_to : List ℕ → Session
  session_to ends = record {
    cards = length recorded;
    margins = map (λ claim. claim.margin) claims;
    limit = limit;
    gamma = gamma;
    rounds = map (round_to gamma claims recorded seen draws) ends;
  }

  -- a session whose counts are those of these draws, at the ends of its rounds
  pub record Agrees (session : Session) : Type 0 where
    pub cards : session.cards ≡ length recorded
    pub margins : session.margins ≡ map (λ claim. claim.margin) claims
    pub same_limit : session.limit ≡ limit
    pub same_gamma : session.gamma ≡ gamma
    pub drawn : All (λ round. round.draws ≤ length draws) session.rounds
    pub counts : All (λ round. round.counts
        ≡ map (λ claim. counts_after claim.value recorded seen draws round.draws) claims)
        session.rounds

  -- the session has rounds of these draws; the rounds may end anywhere
  pub record IsSessionOf (session : Session) : Type 0 where
    pub ends : List ℕ
    pub are : AreRoundEnds (length draws) ends
    pub is : session ≡ session_to ends

  -- some session of the draws is signed off at its last round
  abbrev pub IsSignedOffOn : Type 0
  IsSignedOffOn = (session : Session) × IsSessionOf session × IsTrue (is_signed_off session)

  -- the session with a round after each draw is signed off
  abbrev pub is_signed_off_on : Bool
  is_signed_off_on = is_signed_off (session_to (range_with_len 1 (length draws)))
