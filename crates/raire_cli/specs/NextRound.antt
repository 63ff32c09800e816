-- What a round adds to the session of an audit, whatever claims the session has.
use Rattle.std.specs.Prelude.{◌≡◌, ◌<◌, ◌≤◌, ℕ, List, length, map, take, All, None, IsTrue}
use Rattle.manifest.specs.declared.recorded.Recorded.{Recorded}
use Rattle.assorters.specs.Cards.{discrepancy_of}
use Rattle.assorters.specs.declared.seen.Seen.{Seen}
use Rattle.km_risk.specs.Exact.{is_within}
use Rattle.seen_file.specs.Seen.{Entry}
use Rattle.session_state.specs.Content.{Content, with_round}
use Rattle.session_state.specs.Draws.{Audited, IsSessionOf, round_to}
use Rattle.audit_session.specs.Going.{all_seen, drawn_cards}
use Rattle.audit_session.specs.Refusals.{last_draws, without_record}

-- the session so far, what is recorded for each card, and what is seen of some cards
module _ (session : Content) (recorded : List Recorded) (entries : List Entry) where
  abbrev pub cards : ℕ
  cards = length recorded

  -- what is seen of each card
  abbrev pub seen : List Seen
  seen = all_seen entries cards

  -- the cards that the session's seed draws
  abbrev pub drawn : ℕ → List ℕ
  drawn draws = drawn_cards session.seed cards draws

  -- and these claims
  module _ (claims : List Audited) where
    -- this is the session with a round up to this number of draws
    pub record IsNextRound (draws : ℕ) (next : Content) : Type 0 where
      pub more : last_draws session.session.rounds < draws
      -- each drawn card has a record of what is seen
      pub all_told : without_record session.seed cards entries draws ≡ None
      -- nothing but the added round changes
      pub added : next ≡ with_round session
          (round_to session.session.gamma claims recorded seen (drawn draws) draws)
      -- all rounds, including earlier ones, have the counts and the risks that follow from the cards that the seed draws and what is seen of them
      pub of_draws : IsSessionOf session.session.limit session.session.gamma claims recorded seen
          (drawn draws) next.session

    -- for each claim, the exact risk was within the limit after some number of the draws
    abbrev pub WereWithin : ℕ → Type 0
    WereWithin draws = All
        (λ claim. (k : ℕ) × (k ≤ draws)
        × IsTrue (is_within cards claim.margin session.session.gamma session.session.limit
        (map (discrepancy_of claim.value recorded seen) (take k (drawn draws)))))
        claims
