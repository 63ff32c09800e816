-- Laws of the risk of draws in the order they come.
use Rattle.std.specs.Prelude.{◌≡◌, ℕ, ◌*◌, ◌^◌, ◌<◌, ◌≤◌, IsTrue, List, ◌++◌, length, take, All, sum, count_by, Some}
use Rattle.km_risk.specs.declared.limits.TheConstants.{CEILING, MILLIONTH}
use Rattle.km_risk.specs.AsDrawn.{IsAtLeastExact, IsNearExact, first_within, is_within_as_drawn, risk_as_drawn}
use Rattle.km_risk.specs.Exact.{is_within, millionths_in_one}
use Rattle.km_risk.specs.Factor.{threshold}
use Rattle.km_risk.specs.Reach.{sequences, some_prefix}

-- a risk up to the ceiling is that of the draws: it is at least their exact risk and near it
pub record IsRiskOf (cards margin gamma : ℕ) (draws : List ℕ) (risk : ℕ) : Type 0 where
  pub at_least : IsAtLeastExact cards margin gamma draws risk
  pub near : IsNearExact cards margin gamma draws risk

-- up to the ceiling, the printed risk is at least the exact one, and exceeds it by no more than its steps may have rounded up
abbrev pub AsDrawnLaw : Type 0
AsDrawnLaw =
    (cards margin gamma : ℕ) (draws : List ℕ) → 1 ≤ cards → margin ≤ cards → 1 ≤ gamma →
    risk_as_drawn cards margin gamma draws ≤ CEILING →
    IsRiskOf cards margin gamma draws (risk_as_drawn cards margin gamma draws)

-- above the ceiling, the risk is that of the first draws after which it was above the ceiling, and no draw changes it
pub record StaysAbove (cards margin gamma : ℕ) (draws : List ℕ) : Type 0 where
  pub first : ℕ
  pub among : first ≤ length draws
  pub same : risk_as_drawn cards margin gamma (take first draws)
      ≡ risk_as_drawn cards margin gamma draws
  pub of_them : IsRiskOf cards margin gamma (take first draws)
      (risk_as_drawn cards margin gamma draws)
  pub lasting : (more : List ℕ) → risk_as_drawn cards margin gamma (draws ++ more)
      ≡ risk_as_drawn cards margin gamma draws

abbrev pub CeilingLaw : Type 0
CeilingLaw =
    (cards margin gamma : ℕ) (draws : List ℕ) → 1 ≤ cards → margin ≤ cards → 1 ≤ gamma →
    CEILING < risk_as_drawn cards margin gamma draws → StaysAbove cards margin gamma draws

-- after the first draw within the limit the risk is within the limit, and it wasn't after any earlier draw
abbrev pub FirstWithinLaw : Type 0
FirstWithinLaw =
    (cards margin gamma limit k : ℕ) (draws : List ℕ) →
    first_within cards margin gamma limit draws ≡ Some k →
    (1 ≤ k) × (k ≤ length draws)
    × IsTrue (is_within_as_drawn cards margin gamma limit (take k draws))
    × ((j : ℕ) → 1 ≤ j → j < k →
    limit * MILLIONTH < risk_as_drawn cards margin gamma (take j draws))

-- draws with a printed risk of at most limit millionths have an exact risk of at most that
abbrev pub WithinAsDrawnLaw : Type 0
WithinAsDrawnLaw =
    (cards margin gamma limit : ℕ) (draws : List ℕ) →
    1 ≤ cards → margin ≤ cards → 1 ≤ gamma → limit < millionths_in_one →
    IsTrue (is_within_as_drawn cards margin gamma limit draws) →
    IsTrue (is_within cards margin gamma limit draws)

-- if the assertion isn't true of the cards, some first draws have a printed risk within the limit in at most limit millionths of all
-- sequences: looking after each draw confirms an assertion like this on no more sequences
abbrev pub AsDrawnRiskLimitLaw : Type 0
AsDrawnRiskLimitLaw =
    (cards margin gamma limit : ℕ) (discrepancies : List ℕ) →
    1 ≤ cards → margin ≤ cards → 1 ≤ gamma → limit < millionths_in_one →
    length discrepancies ≡ cards → All (λ d. d ≤ 4) discrepancies →
    sum discrepancies ≤ threshold cards margin →
    (n : ℕ) →
    count_by (some_prefix (is_within_as_drawn cards margin gamma limit))
    (sequences discrepancies n) * millionths_in_one
    ≤ limit * cards ^ n
