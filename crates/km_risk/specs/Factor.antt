-- The factor of one draw, from the cards of the manifest, the margin of the assertion in votes, and gamma in thousandths.
--
-- A draw has a discrepancy d, from 0 to 4. It is 2, minus the recorded value of its card, plus the seen value (both values of the assorter,
-- doubled). Without a discrepancy, d is 2. The factor is (1/2 + g) / (B + g), where g is gamma / 1000 and B is the value of the
-- overstatement assorter, (1 - o) / (2 - v), at the overstatement o = (2 - d) / 2 and the margin v = margin / cards (SHANGRLA, section
-- 3.2). Numerator and denominator are multiplied by 1000 * (2 * cards - margin).
use Rattle.std.specs.Prelude.{ℕ, ◌+◌, ◌-◌, ◌*◌, ◌≤◌}
use Rattle.irv_base.specs.declared.limits.TheConstants.{MOST_CARDS, GREATEST_GAMMA}

-- the three numbers are within the limits of an audit
pub record IsSetting (cards margin gamma : ℕ) : Type 0 where
  pub margin_positive : 1 ≤ margin
  pub margin_within : margin ≤ cards
  pub cards_within : cards ≤ MOST_CARDS
  pub gamma_positive : 1 ≤ gamma
  pub gamma_within : gamma ≤ GREATEST_GAMMA

-- the discrepancies of all cards add up to at most this exactly if the assertion isn't true of what is seen
abbrev pub threshold : ℕ → ℕ → ℕ
threshold cards margin = 2 * cards - margin

module _ (cards margin gamma : ℕ) where
  -- the numerator of each draw's factor
  abbrev pub numerator : ℕ
  numerator = (500 + gamma) * threshold cards margin

  -- the denominator of the factor of a draw with the discrepancy d
  abbrev pub denominator : ℕ → ℕ
  denominator d = 500 * d * cards + gamma * threshold cards margin
