-- The cards of a manifest, and their ids.
use Rattle.std.specs.Prelude.{◌≡◌, ◌≤◌, ℕ, ◌+◌, Bool, true, false, ◌&&◌, nat_le, List, [], ◌∷◌, ◌++◌, map, length, position, Option, option_map, IsTrue, decimal}
use Rattle.std.specs.List.{list_all, range_with_len, sum}
use Rattle.irv_base.specs.Names.{Id, is_name, is_same, all_differ}
use Rattle.manifest.specs.declared.card.Card.{Card}
use Rattle.manifest.specs.declared.limits.TheConstants.{MOST_BATCH_BYTES, MOST_BATCH_CARDS}
use Rattle.irv_base.specs.declared.limits.TheConstants.{MOST_CARDS}

-- the batch with number i has the id ids i and counts i cards
pub record Batches : Type 0 where
  pub ids : List Id
  pub counts : List ℕ

-- the cards of a batch are numbered from 1
abbrev pub cards_of_batch : Id → ℕ → List Card
cards_of_batch id n = map (λ k. record { batch = id; k = k }) (range_with_len 1 n)

-- the cards of these batches, batch by batch
abbrev pub cards_in : List Id → List ℕ → List Card
cards_in [] counts = []
cards_in (id ∷ ids) [] = []
cards_in (id ∷ ids) (n ∷ counts) = cards_of_batch id n ++ cards_in ids counts

abbrev pub cards_of : Batches → List Card
cards_of batches = cards_in batches.ids batches.counts

abbrev pub underscore : ℕ
underscore = 0x5F

-- the batch id, an underscore, and the card's number in the batch
abbrev pub card_id : Card → Id
card_id card = card.batch ++ underscore ∷ decimal card.k

abbrev pub is_batch_id : Id → Bool
is_batch_id id = is_name id && nat_le (length id) MOST_BATCH_BYTES

-- no card of a batch can have that id
abbrev pub NamesNone : Id → Type 0
NamesNone id =
    (batch : Id) (k : ℕ) → is_batch_id batch ≡ true → 1 ≤ k → k ≤ MOST_BATCH_CARDS →
    is_same (card_id (record { batch = batch; k = k })) id ≡ false

-- the number of the card with that id, from 1
abbrev pub place_of : List Card → Id → Option ℕ
place_of cards id = option_map (λ i. i + 1) (position (λ card. is_same (card_id card) id) cards)

-- ---- the properties of the batches of a manifest

abbrev pub is_count : ℕ → Bool
is_count n = nat_le 1 n && nat_le n MOST_BATCH_CARDS

pub record AreBatches (ids : List Id) (counts : List ℕ) : Type 0 where
  pub a_count_each : length counts ≡ length ids
  pub named : IsTrue (list_all is_batch_id ids)
  pub differ : IsTrue (all_differ ids)
  pub counted : IsTrue (list_all is_count counts)
  pub most : sum counts ≤ MOST_CARDS
