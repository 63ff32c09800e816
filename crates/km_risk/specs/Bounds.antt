-- A printed risk compared with the exact risk of the same draws. Fractions are compared by cross multiplication.
use Rattle.std.specs.Prelude.{ℕ, ◌+◌, ◌*◌, ◌≤◌, min, nat_le, List, filter, length}
use Rattle.km_risk.specs.declared.limits.TheConstants.{ONE}
use Rattle.km_risk.specs.Exact.{exact_numerator, exact_denominator}

-- the draws with d of 0 or 1, whose factors are at least one
abbrev pub overstated : List ℕ → List ℕ
overstated draws = filter (λ d. nat_le d 1) draws

module _ (cards margin gamma : ℕ) (draws : List ℕ) (risk : ℕ) where
  -- the risk is at least the exact risk of the draws, or at least one if the exact risk is above one
  abbrev pub IsNotBelow : Type 0
  IsNotBelow =
      let over = exact_numerator cards margin gamma draws in
      let under = exact_denominator cards margin gamma draws in
      ONE * min over under ≤ risk * under

  -- the risk exceeds that by at most one unit for each draw, times the exact risk of only the overstated draws
  abbrev pub IsNotFarAbove : Type 0
  IsNotFarAbove =
      let over = exact_numerator cards margin gamma draws in
      let under = exact_denominator cards margin gamma draws in
      let growth_over = exact_numerator cards margin gamma (overstated draws) in
      let growth_under = exact_denominator cards margin gamma (overstated draws) in
      risk * under * growth_under
      ≤ ONE * min over under * growth_under + length draws * growth_over * under
