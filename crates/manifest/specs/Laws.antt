-- The laws of cards, their ids and their ballots.
use Rattle.std.specs.Prelude.{◌≡◌, ℕ, ◌+◌, List, Some, IsTrue}
use Rattle.std.specs.List.{slice_get}
use Rattle.irv_base.specs.Names.{Id, all_differ}
use Rattle.ballots.specs.Ballots.{BallotFile}
use Rattle.manifest.specs.Cards.{AreBatches, Batches, card_id, cards_of, place_of}
use Rattle.manifest.specs.Linked.{linked_of}
use Rattle.manifest.specs.declared.card.Card.{Card}
use Rattle.manifest.specs.declared.recorded.Recorded.TheVariants.{Ranked}

-- the id of the card with number i + 1 is placed there
abbrev pub PlaceUndoesCard : Type 0
PlaceUndoesCard =
    (batches : Batches) (i : ℕ) (card : Card) → AreBatches batches.ids batches.counts →
    slice_get (cards_of batches) i ≡ Some card →
    place_of (cards_of batches) (card_id card) ≡ Some (i + 1)

-- the card at the place of an id has that id
abbrev pub CardUndoesPlace : Type 0
CardUndoesPlace =
    (batches : Batches) (id : Id) (i : ℕ) → place_of (cards_of batches) id ≡ Some (i + 1) →
    (card : Card) × (slice_get (cards_of batches) i ≡ Some card) × (card_id card ≡ id)

-- no two cards have the same id
abbrev pub CardIdsDiffer : Type 0
CardIdsDiffer =
    (batches : Batches) (i j : ℕ) (card other : Card) → AreBatches batches.ids batches.counts →
    slice_get (cards_of batches) i ≡ Some card → slice_get (cards_of batches) j ≡ Some other →
    card_id card ≡ card_id other → i ≡ j

-- ---- linked ballots

-- the ballot's ranking is recorded for the card that the ballot's id names
abbrev pub BallotsAreLinked : Type 0
BallotsAreLinked =
    (batches : Batches) (file : BallotFile) (i k : ℕ) (id : Id) (ranking : List ℕ) →
    IsTrue (all_differ file.ids) → slice_get file.ids i ≡ Some id →
    slice_get file.rankings i ≡ Some ranking → place_of (cards_of batches) id ≡ Some (k + 1) →
    slice_get (linked_of batches file) k ≡ Some (Ranked ranking)

-- no two ballots name the same card
abbrev pub LinksDiffer : Type 0
LinksDiffer =
    (batches : Batches) (file : BallotFile) (i j place : ℕ) (id other : Id) →
    IsTrue (all_differ file.ids) → slice_get file.ids i ≡ Some id →
    slice_get file.ids j ≡ Some other → place_of (cards_of batches) id ≡ Some place →
    place_of (cards_of batches) other ≡ Some place → i ≡ j
