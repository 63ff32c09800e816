-- The ids of cards.
use Rattle.std.proofs.Common.{◌≡◌, ℕ, ◌-◌, Some, map, slice_get, option_map, ap, ◌∙◌}
use Rattle.std.proofs.lemmas.Option.{get_or_from_slice_get, slice_get-map}
use Rattle.manifest.specs.Cards.{Batches, card_id, cards_of}
use Rattle.manifest.specs.declared.card.Card.{Card}
use Rattle.audit_report.specs.Sample.{id_of_card}

pub id_there : (batches : Batches) (number : ℕ) (card : Card) → slice_get (cards_of batches) (number - 1) ≡ Some card → id_of_card batches number ≡ card_id card
id_there batches number card there =
    get_or_from_slice_get (map card_id (cards_of batches)) (number - 1) (card_id card) _
    (slice_get-map card_id (cards_of batches) (number - 1) ∙ ap (option_map card_id) there)
