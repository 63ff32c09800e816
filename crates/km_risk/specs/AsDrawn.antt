-- The printed risk of draws in the order they come, in units of 10^-18. It is a chain of whole numbers with one step for each draw, each
-- rounded up. It may be looked at after each draw.
use Rattle.std.specs.Prelude.{ℕ, ◌+◌, ◌*◌, ◌≤◌, Bool, nat_le, nat_lt, if◌then◌else◌, List, fold, take, length, Option, find}
use Rattle.std.specs.List.{range_with_len}
use Rattle.irv_base.specs.declared.limits.TheConstants.{MOST_CARDS}
use Rattle.km_risk.specs.declared.limits.TheConstants.{CEILING, GREATEST_EACH_GAMMA, MILLIONTH, ONE}
use Rattle.km_risk.specs.Bounds.{overstated}
use Rattle.km_risk.specs.Exact.{exact_numerator, exact_denominator}
use Rattle.km_risk.specs.Factor.{numerator, denominator}
use Rattle.km_risk.specs.Printed.{divided_up}

-- the three numbers are within the limits of such a risk
pub record IsEachSetting (cards margin gamma : ℕ) : Type 0 where
  pub margin_positive : 1 ≤ margin
  pub margin_within : margin ≤ cards
  pub cards_within : cards ≤ MOST_CARDS
  pub gamma_positive : 1 ≤ gamma
  pub gamma_within : gamma ≤ GREATEST_EACH_GAMMA

module _ (cards margin gamma : ℕ) where
  -- the risk after one more draw: the risk times the draw's factor, rounded up; a risk that has risen above the ceiling stays as it is
  abbrev pub next_risk : ℕ → ℕ → ℕ
  next_risk risk d =
      if nat_lt CEILING risk then risk
      else divided_up (risk * numerator cards margin gamma) (denominator cards margin gamma d)

  -- the risk after all of these draws
  unfoldable pub risk_as_drawn : List ℕ → ℕ
  risk_as_drawn draws = fold next_risk ONE draws

  -- this risk is at most limit millionths
  abbrev pub is_within_as_drawn : ℕ → List ℕ → Bool
  is_within_as_drawn limit draws = nat_le (risk_as_drawn draws) (limit * MILLIONTH)

  -- the first draw after which the risk is within the limit, counted from 1
  abbrev pub first_within : ℕ → List ℕ → Option ℕ
  first_within limit draws =
      find (λ k. is_within_as_drawn limit (take k draws)) (range_with_len 1 (length draws))

-- ---- a printed risk compared with the exact risk of the same draws; fractions are compared by cross multiplication

module _ (cards margin gamma : ℕ) (draws : List ℕ) (risk : ℕ) where
  -- the risk is at least the exact risk
  abbrev pub IsAtLeastExact : Type 0
  IsAtLeastExact =
      let over = exact_numerator cards margin gamma draws in
      let under = exact_denominator cards margin gamma draws in
      ONE * over ≤ risk * under

  -- the risk exceeds the exact risk by at most one unit for each draw, times the exact risk of only the overstated draws
  abbrev pub IsNearExact : Type 0
  IsNearExact =
      let over = exact_numerator cards margin gamma draws in
      let under = exact_denominator cards margin gamma draws in
      let growth_over = exact_numerator cards margin gamma (overstated draws) in
      let growth_under = exact_denominator cards margin gamma (overstated draws) in
      risk * under * growth_under ≤ ONE * over * growth_under + length draws * growth_over * under
