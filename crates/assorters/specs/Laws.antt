-- The laws of the cards that are compared with their records.
use Rattle.std.specs.Prelude.{◌≡◌, ◌↔◌, ℕ, ◌*◌, ◌<◌, ◌≤◌, List, map, length, sum, sum_by, All, pos, ◌-ℤ◌, ◌<ℤ◌, None}
use Rattle.std.specs.List.{range_with_len}
use Rattle.ballots.specs.Ballots.{BallotFile, IsSound as AreSound}
use Rattle.manifest.specs.Cards.{Batches, AreBatches}
use Rattle.manifest.specs.Linked.{linked_of, first_without_card}
use Rattle.manifest.specs.declared.recorded.Recorded.{Recorded}
use Rattle.assorters.specs.declared.seen.Seen.{Seen}
use Rattle.assorters.specs.Cards.{IsAssorter, seen_value, margin_over, discrepancies, discrepancy_of}

-- the discrepancies of all cards add up to more than 2 each, minus the margin, exactly if the seen values add up to more than 1 each
abbrev pub ComparisonLaw : Type 0
ComparisonLaw =
    (value : List ℕ → ℕ) (recorded : List Recorded) (seen : List Seen) → IsAssorter value →
    length seen ≡ length recorded →
    ((pos (2 * length recorded) -ℤ margin_over value recorded)
    <ℤ pos (sum (discrepancies value recorded seen)))
    ↔ (length recorded < sum_by (seen_value value) seen)

-- the discrepancies of the cards, in the order of their numbers, are the list of discrepancies, each from 0 to 4
abbrev pub DiscrepanciesLaw : Type 0
DiscrepanciesLaw =
    (value : List ℕ → ℕ) (recorded : List Recorded) (seen : List Seen) → IsAssorter value →
    length seen ≡ length recorded →
    (map (discrepancy_of value recorded seen) (range_with_len 1 (length recorded))
    ≡ discrepancies value recorded seen)
    × All (λ d. d ≤ 4) (discrepancies value recorded seen)

-- if each ballot has a card, the margin over the linked records is the margin over the ballots: a card without a record adds nothing
abbrev pub LinkedMarginLaw : Type 0
LinkedMarginLaw =
    (value : List ℕ → ℕ) (batches : Batches) (ballots : BallotFile) →
    AreBatches batches.ids batches.counts → AreSound ballots →
    first_without_card batches ballots ≡ None →
    margin_over value (linked_of batches ballots)
    ≡ pos (sum_by value ballots.rankings) -ℤ pos (length ballots.rankings)
