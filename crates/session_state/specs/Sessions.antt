-- The session of an audit: rounds of draws, each with the counts and risks of all claims; and when it is signed off.
use Rattle.std.specs.Prelude.{◌≡◌, ℕ, ◌*◌, ◌<◌, ◌≤◌, Bool, false, ◌&&◌, nat_le, Option, Some, None, List, map, length, take, zip, slice_get, All, AllPairs}
use Rattle.std.specs.List.{list_all, list_any, range_with_len}
use Rattle.km_risk.specs.declared.limits.TheConstants.{MILLIONTH}
use Rattle.km_risk.specs.declared.draws.Counts.{Counts}
use Rattle.km_risk.specs.Counts.{draws_in}
use Rattle.km_risk.specs.Printed.{printed_risk}

-- the number of draws from the first to the end of the round, and for each claim the counts over these draws and the printed risk
pub record Round : Type 0 where
  pub draws : ℕ
  pub counts : List Counts
  pub risks : List ℕ

-- the margin of each claim; the limit is in millionths, and gamma in thousandths
pub record Session : Type 0 where
  pub cards : ℕ
  pub margins : List ℕ
  pub limit : ℕ
  pub gamma : ℕ
  pub rounds : List Round

-- ---- when it is signed off

abbrev pub is_at_most : ℕ → Option ℕ → Bool
is_at_most limit None = false
is_at_most limit (Some risk) = nat_le risk (limit * MILLIONTH)

-- the risk of the claim with this index is within the limit at the end of the round
abbrev pub meets : ℕ → ℕ → Round → Bool
meets limit claim round = is_at_most limit (slice_get round.risks claim)

module _ (session : Session) where
  -- this was so at the end of this round, counted from 1, or of an earlier one
  abbrev pub is_confirmed_at : ℕ → ℕ → Bool
  is_confirmed_at round claim = list_any (meets session.limit claim) (take round session.rounds)

  -- there is a round, and every claim is confirmed at the last one
  abbrev pub is_signed_off : Bool
  is_signed_off =
      nat_le 1 (length session.rounds)
      && list_all (is_confirmed_at (length session.rounds))
      (range_with_len 0 (length session.margins))

-- ---- the invariants of a session

-- the risk of each claim, from its counts
abbrev pub risks_of : ℕ → ℕ → List ℕ → List Counts → List ℕ
risks_of cards gamma margins counts =
    map (λ claim. printed_risk cards claim.0 gamma claim.1) (zip margins counts)

pub record IsRound (session : Session) (round : Round) : Type 0 where
  pub some : 1 ≤ round.draws
  pub each : length round.counts ≡ length session.margins
  pub all_draws : All (λ counts. draws_in counts ≡ round.draws) round.counts
  pub printed : round.risks ≡ risks_of session.cards session.gamma session.margins round.counts

-- the draws of its rounds increase, and each round has the counts of as many draws and their printed risks
pub record IsSession (session : Session) : Type 0 where
  pub some : 1 ≤ length session.margins
  pub margins : All (λ margin. (1 ≤ margin) × (margin ≤ session.cards)) session.margins
  pub rising : AllPairs (λ round later. round.draws < later.draws) session.rounds
  pub rounds : All (IsRound session) session.rounds
