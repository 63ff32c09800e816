-- The place of an id among the cards of a manifest.
use Rattle.std.proofs.Common.{◌≡◌, ◌∙◌, ◌+◌, ◌-◌, ◌<◌, ◌≤◌, ℕ, Bool, false, List, Option, Some, None, length, take, get_or, sym, ap, arith}
use Rattle.std.specs.Prelude.{option_map, position}
use Rattle.std.specs.List.{sum}
use Rattle.irv_base.specs.Names.{Id, is_same, is_among}
use Rattle.manifest.specs.Cards.{AreBatches, NamesNone, card_id, cards_in, place_of}
use Rattle.manifest.specs.Firsts.{IsManifest}
use Rattle.manifest.specs.declared.card.Card.{Card}
use Rattle.manifest.specs.declared.limits.TheConstants.{MOST_BATCH_CARDS}
use Rattle.manifest.proofs.CardIds.{names}
use Rattle.manifest.proofs.CardAt.{first_at}
use Rattle.manifest.proofs.Finding.{absent, card, found, nowhere, past}

abbrev has_id : Id → Card → Bool
has_id id = λ c. is_same (card_id c) id

as_place : (id : Id) (ids : List Id) (counts : List ℕ) (o : Option ℕ) → position (has_id id) (cards_in ids counts) ≡ o →
    option_map (λ i. i + 1) o ≡ place_of (cards_in ids counts) id
as_place id ids counts o e = ap (option_map (λ i. i + 1)) (sym e)

pub place_none : (id : Id) (ids : List Id) (counts : List ℕ) → AreBatches ids counts → NamesNone id → None ≡ place_of (cards_in ids counts) id
place_none id ids counts m h = as_place id ids counts None (nowhere (has_id id) ids counts m.named m.counted (λ b v k first most. h b k v first most))

-- a card that has the id, though it doesn't have to be in the manifest
pub record HasId (id batch : Id) (k : ℕ) : Type 0 where
  pub same : card_id (card batch k) ≡ id
  pub first : 1 ≤ k
  pub most : k ≤ MOST_BATCH_CARDS

pub place_absent : (id batch : Id) (k : ℕ) (ids : List Id) (counts : List ℕ) → AreBatches ids counts → HasId id batch k → is_among ids batch ≡ false →
    None ≡ place_of (cards_in ids counts) id
place_absent id batch k ids counts m h none =
    as_place id ids counts None (absent (has_id id) batch k ids counts m.named m.counted (names id batch k h.same h.first h.most) none)

pub place_past : (id batch : Id) (k i : ℕ) (ids : List Id) (counts : List ℕ) → AreBatches ids counts → HasId id batch k →
    position (is_same batch) ids ≡ Some i → get_or counts i 0 < k
    → None ≡ place_of (cards_in ids counts) id
place_past id batch k i ids counts m h at less =
    as_place id ids counts None (past (has_id id) batch k i ids counts m.a_count_each m.named m.differ m.counted
    (names id batch k h.same h.first h.most) at less)

pub place_found : (id batch : Id) (k i : ℕ) (ids : List Id) (counts firsts : List ℕ) (cards first : ℕ) → IsManifest ids counts firsts cards →
    HasId id batch k → position (is_same batch) ids ≡ Some i → i < length counts
    → first ≡ get_or firsts i 0 → k ≤ get_or counts i 0 → Some (first + (k - 1)) ≡ place_of (cards_in ids counts) id
place_found id batch k i ids counts firsts cards first m h at within e few =
    let b = m.batches in
    let s : first ≡ 1 + sum (take i counts) = e ∙ ap (λ fs. get_or fs i 0) m.first_each ∙ first_at 1 counts i within in
    ap Some (omega (arith, s, h.first))
    ∙ as_place id ids counts (Some (sum (take i counts) + (k - 1)))
    (found (has_id id) batch k i ids counts b.a_count_each b.named b.counted (names id batch k h.same h.first h.most) at few)
