-- A poll of drawn cards: how often each value of an assertion's assorter was seen, and the risk that follows from these counts.
--
-- A draw with a seen value s has the factor (1/2 + g) / (s/2 + g), where g is gamma / 1000. This is the factor of a comparison with
-- discrepancy s, at one card and a margin of one vote.
use Rattle.std.specs.Prelude.{◌≡◌, ℕ, ◌*◌, ◌==◌, Bool, nat_le, List, map, count_by, Some}
use Rattle.std.specs.List.{list_all}
use Rattle.km_risk.specs.declared.draws.Counts.{Counts}
use Rattle.km_risk.specs.declared.limits.TheConstants.{MILLIONTH}
use Rattle.km_risk.specs.Printed.{printed_risk}
use Rattle.sampler.specs.Draws.{drawn_card}
use Rattle.assorters.specs.declared.seen.Seen.{Seen}
use Rattle.assorters.specs.Cards.{seen_value}
use Rattle.seen_file.specs.Seen.{Entry}
use Rattle.audit_session.specs.Going.{seen_at}
use Rattle.audit_session.specs.Refusals.{unseen_draw}
use Rattle.audit_session.specs.declared.seen.SeenCard.{SeenCard}
use Rattle.audit_session.specs.declared.seen.Unseen.{Unseen}
use Rattle.audit_session.specs.declared.seen.Unseen.TheVariants.{NoRecord as NoRecordOf, Memory as MemoryOf}
use Rattle.polling.specs.declared.counts.PollCounts.{PollCounts}
use Rattle.polling.specs.declared.fault.PollFault.{PollFault}
use Rattle.polling.specs.declared.fault.PollFault.TheVariants.{NoRecord, Memory}

-- ---- the counts

-- the numbers of values that are 0, 1 and 2
abbrev pub counted : List ℕ → PollCounts
counted values = record {
  n0 = count_by (λ s. s == 0) values;
  n1 = count_by (λ s. s == 1) values;
  n2 = count_by (λ s. s == 2) values;
}

abbrev pub polled : (List ℕ → ℕ) → SeenCard → ℕ
polled value drawn = seen_value value drawn.seen

-- the counts over these drawn cards
abbrev pub poll_counts : (List ℕ → ℕ) → List Seen → List ℕ → PollCounts
poll_counts value seen drawn = counted (map (λ card. seen_value value (seen_at seen card)) drawn)

-- ---- the risk

-- the counts as discrepancies of a comparison
abbrev pub as_counts : PollCounts → Counts
as_counts counts =
    record { n0 = counts.n0; n1 = counts.n1; n2 = counts.n2; n3 = 0; n4 = 0 }

-- the printed risk, at gamma thousandths
abbrev pub poll_risk : ℕ → PollCounts → ℕ
poll_risk gamma counts = printed_risk 1 1 gamma (as_counts counts)

-- the risk is at most limit millionths
abbrev pub is_risk_within : ℕ → ℕ → Bool
is_risk_within limit risk = nat_le risk (limit * MILLIONTH)

-- the poll of these drawn cards confirms claims with these values
abbrev pub is_confirmed : ℕ → ℕ → List (List ℕ → ℕ) → List Seen → List ℕ → Bool
is_confirmed limit gamma values seen drawn =
    list_all (λ value. is_risk_within limit (poll_risk gamma (poll_counts value seen drawn))) values

-- ---- why there is none

-- the fault of a poll that has a draw without a record
abbrev pub as_poll_fault : Unseen → PollFault
as_poll_fault (NoRecordOf card k) = NoRecord card k
as_poll_fault MemoryOf = Memory

module _ (seed : List ℕ) (cards : ℕ) (entries : List Entry) (draws : ℕ) where
  -- the fault names the first draw whose card has no record; memory may run short at any time
  abbrev pub IsPollFault : PollFault → Type 0
  IsPollFault (NoRecord card k) =
      (unseen_draw seed cards entries draws ≡ Some k) × (card ≡ drawn_card seed k cards)
  IsPollFault Memory = Unit {0}
