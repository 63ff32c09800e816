-- Laws of the risk.
use Rattle.std.specs.Prelude.{◌≡◌, ◌≢◌, ◌↔◌, ℕ, ◌+◌, ◌*◌, ◌^◌, ◌<◌, ◌≤◌, IsTrue, List, [], map, length, All, AllPairs, Contains, sum, sum_by, count_by, MatchOption, IfSome, IsSomeAnd}
use Rattle.std.specs.List.{range_with_len}
use Rattle.km_risk.specs.declared.limits.TheConstants.{CEILING, MILLIONTH, ONE}
use Rattle.km_risk.specs.declared.draws.Counts.{Counts}
use Rattle.km_risk.specs.Factor.{threshold, numerator, denominator}
use Rattle.km_risk.specs.Product.{is_within as is_product_within, reach as product_reach}
use Rattle.km_risk.specs.Exact.{millionths_in_one, exact_numerator, exact_denominator, is_within}
use Rattle.km_risk.specs.Counts.{draws_in, in_order, counts_of, clean}
use Rattle.km_risk.specs.Printed.{printed_risk, is_printed_within}
use Rattle.km_risk.specs.Bounds.{IsNotBelow, IsNotFarAbove}
use Rattle.km_risk.specs.Clean.{clean_draws, IsLeast, IsNeverWithinMost}
use Rattle.km_risk.specs.Reach.{IsSequence, sequences, some_prefix, reach}

-- the units of a risk
pub record UnitsLaw : Type 0 where
  pub one : ONE ≡ 10 ^ 18
  pub millionth : ONE ≡ millionths_in_one * MILLIONTH
  pub ceiling : CEILING ≡ 10 ^ 24

-- a draw lowers the risk exactly if its d is 2 or more
abbrev pub FactorLaw : Type 0
FactorLaw =
    (cards margin gamma d : ℕ) → 1 ≤ margin → margin ≤ cards →
    (d ≤ 1 → denominator cards margin gamma d ≤ numerator cards margin gamma)
    × (2 ≤ d → numerator cards margin gamma < denominator cards margin gamma d)

-- the exact risk of draws is the exact risk of their counts: their order doesn't matter
abbrev pub OrderLaw : Type 0
OrderLaw =
    (cards margin gamma : ℕ) (draws : List ℕ) → All (λ d. d ≤ 4) draws →
    (exact_numerator cards margin gamma (in_order (counts_of draws))
    ≡ exact_numerator cards margin gamma draws)
    × (exact_denominator cards margin gamma (in_order (counts_of draws))
    ≡ exact_denominator cards margin gamma draws)

-- the counts of draws add up to the number of draws
abbrev pub AllCountedLaw : Type 0
AllCountedLaw =
    (draws : List ℕ) → All (λ d. d ≤ 4) draws → draws_in (counts_of draws) ≡ length draws

-- at larger discrepancies of the cards, the exact risk of the same draws is no larger
abbrev pub LargerDiscrepanciesLaw : Type 0
LargerDiscrepanciesLaw =
    (cards margin gamma limit : ℕ) (smaller larger : ℕ → ℕ) →
    ((card : ℕ) → smaller card ≤ larger card) → (drawn : List ℕ) →
    IsTrue (is_within cards margin gamma limit (map smaller drawn)) →
    IsTrue (is_within cards margin gamma limit (map larger drawn))

-- the printed risk is at most one
abbrev pub AtMostOneLaw : Type 0
AtMostOneLaw =
    (cards margin gamma : ℕ) (counts : Counts) → 1 ≤ cards → margin ≤ cards → 1 ≤ gamma →
    printed_risk cards margin gamma counts ≤ ONE

-- the printed risk is at least the exact risk, or at least one if the exact risk is above one
abbrev pub NotBelowLaw : Type 0
NotBelowLaw =
    (cards margin gamma : ℕ) (counts : Counts) → 1 ≤ cards → margin ≤ cards → 1 ≤ gamma →
    IsNotBelow cards margin gamma (in_order counts) (printed_risk cards margin gamma counts)

-- the printed risk exceeds that by no more than its steps may have rounded up
abbrev pub NotFarAboveLaw : Type 0
NotFarAboveLaw =
    (cards margin gamma : ℕ) (counts : Counts) → 1 ≤ cards → margin ≤ cards → 1 ≤ gamma →
    IsNotFarAbove cards margin gamma (in_order counts) (printed_risk cards margin gamma counts)

-- draws with a printed risk of at most limit millionths have an exact risk of at most that
abbrev pub ConfirmedLaw : Type 0
ConfirmedLaw =
    (cards margin gamma limit : ℕ) (draws : List ℕ) →
    1 ≤ cards → margin ≤ cards → 1 ≤ gamma → limit < millionths_in_one → All (λ d. d ≤ 4) draws →
    IsTrue (is_printed_within cards margin gamma limit draws) →
    IsTrue (is_within cards margin gamma limit draws)

-- for a number of cards there are that number ^ n sequences of n draws, and the discrepancies along them are the sequences of the cards'
-- discrepancies
abbrev pub SequencesLaw : Type 0
SequencesLaw =
    (cards : List ℕ) (discrepancy : ℕ → ℕ) (n : ℕ) →
    (length (sequences cards n) ≡ length cards ^ n)
    × (map (λ drawn. map discrepancy drawn) (sequences cards n)
    ≡ sequences (map discrepancy cards) n)

-- the listed sequences are all of the sequences, each once
abbrev pub ListedLaw : Type 0
ListedLaw =
    (cards n : ℕ) →
    AllPairs ◌≢◌ (sequences (range_with_len 1 cards) n)
    × ((draws : List ℕ) →
    Contains (sequences (range_with_len 1 cards) n) draws ↔ IsSequence cards n draws)

-- whatever the factors of values are, reach is the number of sequences of values that have a prefix whose product is within the limit
abbrev pub ProductReachLaw : Type 0
ProductReachLaw =
    (over limit : ℕ) (under : ℕ → ℕ) (values : List ℕ) (n : ℕ) →
    product_reach over under limit values [] n
    ≡ count_by (some_prefix (is_product_within over under limit)) (sequences values n)

-- if the mean of the denominators of the cards' factors is at most the numerator, these are at most limit millionths of all sequences
abbrev pub ProductCountingLaw : Type 0
ProductCountingLaw =
    (over limit : ℕ) (under : ℕ → ℕ) (values : List ℕ) →
    0 < over → sum_by under values ≤ length values * over →
    (n : ℕ) →
    product_reach over under limit values [] n * millionths_in_one ≤ limit * length values ^ n

-- if under never falls, values that are larger card by card stay within the limit
abbrev pub LargerValuesLaw : Type 0
LargerValuesLaw =
    (over limit : ℕ) (under smaller larger : ℕ → ℕ) →
    ((a b : ℕ) → a ≤ b → under a ≤ under b) → ((card : ℕ) → smaller card ≤ larger card) →
    (drawn : List ℕ) →
    IsTrue (is_product_within over under limit (map smaller drawn)) →
    IsTrue (is_product_within over under limit (map larger drawn))

-- reach is the number of sequences of draws that have a prefix whose exact risk is within the limit
abbrev pub ReachLaw : Type 0
ReachLaw =
    (cards margin gamma limit : ℕ) (discrepancies : List ℕ) → length discrepancies ≡ cards →
    (n : ℕ) →
    reach cards margin gamma limit discrepancies [] n
    ≡ count_by (some_prefix (is_within cards margin gamma limit)) (sequences discrepancies n)

-- if the assertion isn't true of the cards, these sequences are at most limit millionths of all sequences
abbrev pub CountingLaw : Type 0
CountingLaw =
    (cards margin gamma limit : ℕ) (discrepancies : List ℕ) →
    1 ≤ cards → margin ≤ cards → length discrepancies ≡ cards →
    sum discrepancies ≤ threshold cards margin →
    (n : ℕ) →
    reach cards margin gamma limit discrepancies [] n * millionths_in_one ≤ limit * cards ^ n

-- if the assertion isn't true of the cards, some prefix has a printed risk within the limit in at most limit millionths of all sequences:
-- however often the audit looks at its risk, it confirms an assertion like this on no more sequences
abbrev pub RiskLimitLaw : Type 0
RiskLimitLaw =
    (cards margin gamma limit : ℕ) (discrepancies : List ℕ) →
    1 ≤ cards → margin ≤ cards → 1 ≤ gamma → limit < millionths_in_one →
    length discrepancies ≡ cards → All (λ d. d ≤ 4) discrepancies →
    sum discrepancies ≤ threshold cards margin →
    (n : ℕ) →
    count_by (some_prefix (is_printed_within cards margin gamma limit)) (sequences discrepancies n)
    * millionths_in_one
    ≤ limit * cards ^ n

-- the clean draws are the smallest number that is enough
abbrev pub LeastLaw : Type 0
LeastLaw =
    (cards margin gamma limit : ℕ) →
    MatchOption (clean_draws cards margin gamma limit) (IsNeverWithinMost cards margin gamma limit)
    (IsLeast cards margin gamma limit)

-- one more clean draw never raises the printed risk
abbrev pub MoreDrawsLaw : Type 0
MoreDrawsLaw =
    (cards margin gamma n : ℕ) → 1 ≤ cards → margin ≤ cards → 1 ≤ gamma →
    printed_risk cards margin gamma (clean (n + 1)) ≤ printed_risk cards margin gamma (clean n)

-- an assertion with a larger margin never needs more clean draws
abbrev pub LargerMarginLaw : Type 0
LargerMarginLaw =
    (cards margin larger gamma limit : ℕ) →
    1 ≤ cards → margin ≤ larger → larger ≤ cards → 1 ≤ gamma →
    IfSome (clean_draws cards margin gamma limit)
    (λ n. IsSomeAnd (clean_draws cards larger gamma limit) (λ k. k ≤ n))

-- with a larger margin, the printed risk of the same clean draws is no larger, whatever their number
abbrev pub SameDrawsLaw : Type 0
SameDrawsLaw =
    (cards margin larger gamma n : ℕ) → 1 ≤ cards → margin ≤ larger → larger ≤ cards → 1 ≤ gamma →
    printed_risk cards larger gamma (clean n) ≤ printed_risk cards margin gamma (clean n)
