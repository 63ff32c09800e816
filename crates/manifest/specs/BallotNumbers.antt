-- The data kept for linked cards: for each card the number of its ballot, from 1, or 0 if it has none.
use Rattle.std.specs.Prelude.{ℕ, ◌+◌, ◌-◌, ◌==◌, ◌≤◌, if◌then◌else◌, List, [], map, length, position, slice_index_or, All, Option, Some, None}
use Rattle.irv_base.specs.Names.{Id, is_same}
use Rattle.manifest.specs.Cards.{card_id}
use Rattle.manifest.specs.declared.card.Card.{Card}
use Rattle.irv_base.specs.declared.limits.TheConstants.{MOST_CARDS}
use Rattle.manifest.specs.declared.recorded.Recorded.{Recorded}
use Rattle.manifest.specs.declared.recorded.Recorded.TheVariants.{Ranked, Without}

abbrev pub from_one : Option ℕ → ℕ
from_one None = 0
from_one (Some i) = i + 1

abbrev pub ballot_number : List Id → Card → ℕ
ballot_number ids card = from_one (position (is_same (card_id card)) ids)

abbrev pub ballot_numbers : List Id → List Card → List ℕ
ballot_numbers ids cards = map (ballot_number ids) cards

abbrev pub recorded_at : List (List ℕ) → ℕ → Recorded
recorded_at rankings number =
    if number == 0 then Without else Ranked (slice_index_or rankings (number - 1) [])

pub record AreNumbers (rankings : List (List ℕ)) (numbers : List ℕ) : Type 0 where
  pub few : length numbers ≤ MOST_CARDS
  pub within : All (λ number. number ≤ length rankings) numbers
