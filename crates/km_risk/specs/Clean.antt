-- The clean draws that a limit needs.
use Rattle.std.specs.Prelude.{ℕ, ◌+◌, ◌*◌, ◌<◌, ◌≤◌, min, nat_le, Option, find}
use Rattle.std.specs.List.{range_with_len}
use Rattle.irv_base.specs.declared.limits.TheConstants.{MOST_DRAWS}
use Rattle.km_risk.specs.declared.limits.TheConstants.{MILLIONTH}
use Rattle.km_risk.specs.Counts.{clean}
use Rattle.km_risk.specs.Printed.{printed_risk}

module _ (cards margin gamma limit : ℕ) where
  -- the first number of clean draws whose printed risk is at most limit millionths; no number above the number of cards, or above the
  -- maximum number of draws, is tried
  unfoldable pub clean_draws : Option ℕ
  clean_draws =
      find (λ n. nat_le (printed_risk cards margin gamma (clean n)) (limit * MILLIONTH))
      (range_with_len 0 (min cards MOST_DRAWS + 1))

  -- n clean draws are enough, and no fewer are
  pub record IsLeast (n : ℕ) : Type 0 where
    pub within_cards : n ≤ cards
    pub within_draws : n ≤ MOST_DRAWS
    pub enough : printed_risk cards margin gamma (clean n) ≤ limit * MILLIONTH
    pub least : (k : ℕ) → k < n → limit * MILLIONTH < printed_risk cards margin gamma (clean k)

  -- no number of clean draws up to the number of cards and the maximum number of draws is enough
  abbrev pub IsNeverWithinMost : Type 0
  IsNeverWithinMost =
      (n : ℕ) → n ≤ cards → n ≤ MOST_DRAWS →
      limit * MILLIONTH < printed_risk cards margin gamma (clean n)
