-- The claims that are marked as confirmed.
use Rattle.std.proofs.Common.{◌≡◌, ◌||◌, ◌≤◌, ◌<◌, ℕ, Bool, false, List, length, get_or}
use Rattle.session_state.specs.Sessions.{Round, meets}

-- those before place k are marked by the risks of this round
pub record AreMarked (limit : ℕ) (round : Round) (before after : List Bool) (k : ℕ) : Type 0 where
  pub each : length after ≡ length before
  pub marked : (j : ℕ) → j < k → get_or after j false ≡ (get_or before j false || meets limit j round)
  pub left : (j : ℕ) → k ≤ j → get_or after j false ≡ get_or before j false
