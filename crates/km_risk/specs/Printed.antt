-- The printed risk of numbers of draws, in units of 10^-18: a chain of whole numbers, with each step rounded up.
use Rattle.std.specs.Prelude.{ℕ, ◌+◌, ◌-◌, ◌*◌, ◌/◌, min, Bool, nat_le, if◌then◌else◌, List, fold}
use Rattle.km_risk.specs.declared.limits.TheConstants.{ONE, MILLIONTH}
use Rattle.km_risk.specs.declared.draws.Counts.{Counts}
use Rattle.km_risk.specs.Factor.{numerator, denominator}
use Rattle.km_risk.specs.Counts.{in_order, counts_of}

-- a quotient, rounded up
abbrev pub divided_up : ℕ → ℕ → ℕ
divided_up a b = (a + b - 1) / b

module _ (cards margin gamma : ℕ) where
  -- the risk after one more draw: the risk times the draw's factor, rounded up, and at most one after a draw with d of 0 or 1
  abbrev pub step : ℕ → ℕ → ℕ
  step risk d =
      let scaled =
      divided_up (risk * numerator cards margin gamma) (denominator cards margin gamma d) in
      if nat_le d 1 then min ONE scaled else scaled

  -- the risk after all draws: those with d of 4 first, then those with d of 3, 2, 1 and 0
  unfoldable pub printed_risk : Counts → ℕ
  printed_risk counts = fold step ONE (in_order counts)

  -- the printed risk of a list of draws is at most limit millionths
  abbrev pub is_printed_within : ℕ → List ℕ → Bool
  is_printed_within limit draws = nat_le (printed_risk (counts_of draws)) (limit * MILLIONTH)
