-- What is compared for the cards: what is recorded for each, and what is seen of it (Stark, SHANGRLA, section 3.2). Each card has one of
-- both, in the order of the manifest, and cards are numbered from 1.
use Rattle.std.specs.Prelude.{ℕ, ◌+◌, ◌-◌, ◌≤◌, List, map, zip, length, slice_index_or, sum_by, ℤ, pos, ◌-ℤ◌}
use Rattle.manifest.specs.declared.recorded.Recorded.{Recorded}
use Rattle.manifest.specs.declared.recorded.Recorded.TheVariants.{Ranked, Without}
use Rattle.assorters.specs.declared.seen.Seen.{Seen}
use Rattle.assorters.specs.declared.seen.Seen.TheVariants.{Found, Missing}

-- a function of rankings whose values are 0, 1 and 2
abbrev pub IsAssorter : (List ℕ → ℕ) → Type 0
IsAssorter value = (ranking : List ℕ) → value ranking ≤ 2

module _ (value : List ℕ → ℕ) where
  -- a card without a record counts as 1
  abbrev pub recorded_value : Recorded → ℕ
  recorded_value (Ranked ranking) = value ranking
  recorded_value Without = 1

  -- a card that can't be found counts as 0
  abbrev pub seen_value : Seen → ℕ
  seen_value (Found ranking) = value ranking
  seen_value Missing = 0

  -- from 0 to 4; it is 2 if what is seen counts the same as what is recorded
  abbrev pub discrepancy : Recorded → Seen → ℕ
  discrepancy recorded seen = 2 - recorded_value recorded + seen_value seen

  -- the margin over the records: how much more they count than 1 each
  abbrev pub margin_over : List Recorded → ℤ
  margin_over recorded = pos (sum_by recorded_value recorded) -ℤ pos (length recorded)

  module _ (recorded : List Recorded) (seen : List Seen) where
    -- the discrepancies of all cards
    abbrev pub discrepancies : List ℕ
    discrepancies = map (λ card. discrepancy card.0 card.1) (zip recorded seen)

    -- the discrepancy of the card with this number
    abbrev pub discrepancy_of : ℕ → ℕ
    discrepancy_of card =
        discrepancy (slice_index_or recorded (card - 1) Without)
        (slice_index_or seen (card - 1) Missing)
