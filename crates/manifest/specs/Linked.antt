-- What a ballot file has for the cards of a manifest.
use Rattle.std.specs.Prelude.{◌≡◌, ℕ, Bool, not, List, [], map, position, slice_index_or, Option, Some, None, option_map}
use Rattle.std.specs.List.{list_any}
use Rattle.irv_base.specs.Names.{Id, is_same}
use Rattle.ballots.specs.Ballots.{BallotFile}
use Rattle.manifest.specs.Cards.{Batches, card_id, cards_of}
use Rattle.manifest.specs.declared.card.Card.{Card}
use Rattle.manifest.specs.declared.link_fault.LinkFault.{LinkFault}
use Rattle.manifest.specs.declared.link_fault.LinkFault.TheVariants.{NoCard, Memory}
use Rattle.manifest.specs.declared.recorded.Recorded.{Recorded}
use Rattle.manifest.specs.declared.recorded.Recorded.TheVariants.{Ranked, Without}

abbrev pub ranked_by : BallotFile → Option ℕ → Recorded
ranked_by file None = Without
ranked_by file (Some i) = Ranked (slice_index_or file.rankings i [])

-- the ranking of the ballot with the card's id, if there is one
abbrev pub recorded_of : BallotFile → Card → Recorded
recorded_of file card = ranked_by file (position (is_same (card_id card)) file.ids)

-- what is recorded for each card, in order
abbrev pub linked_of : Batches → BallotFile → List Recorded
linked_of batches file = map (recorded_of file) (cards_of batches)

-- ---- ballots without a card

-- some card has that id
abbrev pub has_card : Batches → Id → Bool
has_card batches id = list_any (λ card. is_same (card_id card) id) (cards_of batches)

-- the number of the record of the first ballot whose id isn't the id of a card
abbrev pub first_without_card : Batches → BallotFile → Option ℕ
first_without_card batches file =
    option_map (λ i. slice_index_or file.places i 0)
    (position (λ id. not (has_card batches id)) file.ids)

-- the ballots aren't linked for this reason; memory may always run out
abbrev pub RefusesLink : Option ℕ → LinkFault → Type 0
RefusesLink first (NoCard at) = first ≡ Some at
RefusesLink first Memory = Unit {0}
