-- The laws of a poll other than its limit: which polls the limit counts, and that a poll is a comparison with another factor.
use Rattle.std.specs.Prelude.{◌≡◌, ℕ, ◌+◌, ◌*◌, ◌≤◌, List, map, length, IsTrue}
use Rattle.km_risk.specs.Counts.{counts_of}
use Rattle.km_risk.specs.Factor.{numerator, denominator}
use Rattle.km_risk.specs.Printed.{printed_risk}
use Rattle.km_risk.specs.Reach.{IsSequence}
use Rattle.assorters.specs.declared.seen.Seen.{Seen}
use Rattle.assorters.specs.Cards.{IsAssorter, seen_value}
use Rattle.seen_file.specs.Seen.{Entry}
use Rattle.audit_session.specs.Going.{all_seen, drawn_cards, seen_at}
use Rattle.audit_session.specs.Laws.{AreTrueEntries}
use Rattle.polling.specs.Polls.{is_confirmed, poll_counts, poll_risk}
use Rattle.polling.specs.PollLimit.{MayBeConfirmed}

-- ---- what is counted

-- a poll that confirms claims by the draws of a seed is counted, if each drawn card was read as it was; it is also counted among longer
-- sequences, however many draws the seed then gives
abbrev pub PolledIsCounted : Type 0
PolledIsCounted =
    (limit gamma draws most : ℕ) (seed : List ℕ) (values : List (List ℕ → ℕ))
    (entries : List Entry) (actual : List (List ℕ)) →
    1 ≤ length actual → draws ≤ most →
    AreTrueEntries actual entries (drawn_cards seed (length actual) draws) →
    IsTrue (is_confirmed limit gamma values (all_seen entries (length actual))
    (drawn_cards seed (length actual) draws)) →
    IsSequence (length actual) most (drawn_cards seed (length actual) most)
    × MayBeConfirmed limit gamma values actual (drawn_cards seed (length actual) most)

-- ---- a comparison with another factor

-- a poll prints the risk of a comparison at one card and a margin of one vote, whose discrepancies are the seen values
abbrev pub PollIsComparison : Type 0
PollIsComparison =
    (gamma : ℕ) (value : List ℕ → ℕ) (seen : List Seen) (drawn : List ℕ) → IsAssorter value →
    poll_risk gamma (poll_counts value seen drawn)
    ≡ printed_risk 1 1 gamma
    (counts_of (map (λ card. seen_value value (seen_at seen card)) drawn))

-- in that comparison, the factor of a draw is (500 + gamma) / (500 * s + gamma)
pub record FactorLaw (gamma s : ℕ) : Type 0 where
  pub over : numerator 1 1 gamma ≡ 500 + gamma
  pub under : denominator 1 1 gamma s ≡ 500 * s + gamma
