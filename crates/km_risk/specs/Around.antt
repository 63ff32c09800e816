-- Bounds on the exact risk of clean draws.
use Rattle.std.specs.Prelude.{ℕ, ◌*◌, ◌^◌, ◌≤◌}
use Rattle.km_risk.specs.declared.bounds.Bounds.{Bounds}
use Rattle.km_risk.specs.declared.bounds.TheConstants.{SCALE}
use Rattle.km_risk.specs.declared.setting.Setting.{Setting}
use Rattle.km_risk.specs.Factor.{numerator, denominator}

-- the exact risk of n clean draws is at least least / SCALE and at most most / SCALE
pub record IsAround (cards margin gamma n least most : ℕ) : Type 0 where
  pub lower :
      least * denominator cards margin gamma 2 ^ n ≤ SCALE * numerator cards margin gamma ^ n
  pub upper : SCALE * numerator cards margin gamma ^ n ≤ most * denominator cards margin gamma 2 ^ n
  pub least_few : least ≤ SCALE
  pub most_few : most ≤ SCALE

-- these are bounds on the risk of their draws, in this setting
abbrev pub AreAround : Setting → Bounds → Type 0
AreAround setting bounds =
    IsAround setting.cards setting.margin setting.gamma bounds.draws bounds.least bounds.most
