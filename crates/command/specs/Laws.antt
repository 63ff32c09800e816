-- The laws of tasks.
use Rattle.std.specs.Prelude.{◌≡◌}
use Rattle.command.specs.declared.limits.TheConstants.{MOST_FLOOR, MOST_GAP, MOST_TRIAL_NUMBER, DEFAULT_WORKERS, DEFAULT_FLOOR, DEFAULT_GAP, DEFAULT_LIMIT, DEFAULT_GAMMA, DEFAULT_CANDIDATES, DEFAULT_BALLOTS}

-- the limits and defaults
pub record Limits : Type 0 where
  pub default_workers : DEFAULT_WORKERS ≡ 4
  pub floor : MOST_FLOOR ≡ 1000000
  pub default_floor : DEFAULT_FLOOR ≡ 1
  pub gap : MOST_GAP ≡ 500
  pub default_gap : DEFAULT_GAP ≡ 0
  pub default_limit : DEFAULT_LIMIT ≡ 50000
  pub default_gamma : DEFAULT_GAMMA ≡ 100
  pub trial_number : MOST_TRIAL_NUMBER ≡ 4294967295
  pub default_candidates : DEFAULT_CANDIDATES ≡ 6
  pub default_ballots : DEFAULT_BALLOTS ≡ 10000
