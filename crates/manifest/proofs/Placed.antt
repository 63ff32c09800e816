-- The id of a card is placed at the place of the card.
use Rattle.std.proofs.Common.{inl, inr, ◌⊎◌, ◌≡◌, ◌∙◌, ◌∷◌, [], ◌+◌, ◌-◌, ◌<◌, ◌≤◌, ℕ, Bool, true, false, not, List, Option, Some, None, length, get_or, nat_lt, refl, sym, ap, subst, arith, ltb-true, ltb-false}
use Rattle.std.specs.Prelude.{option_map, position}
use Rattle.std.specs.Cmp.Lexicographic.{bytes_decides}
use Rattle.std.specs.List.{list_all, slice_get}
use Rattle.std.proofs.lemmas.Bool.{and_parts, cases_Bool, both_ways, not-true}
use Rattle.std.proofs.lemmas.List.Quantifiers.{position-Some}
use Rattle.std.proofs.lemmas.Option.{slice_get-get_or}
use Rattle.irv_base.specs.Names.{Id, is_same, is_among, all_differ}
use Rattle.manifest.specs.Cards.{AreBatches, Batches, card_id, cards_in, cards_of, cards_of_batch, is_batch_id, is_count}
use Rattle.manifest.specs.Laws.{CardIdsDiffer, CardUndoesPlace, PlaceUndoesCard}
use Rattle.manifest.specs.declared.card.Card.{Card}
use Rattle.manifest.specs.declared.limits.TheConstants.{MOST_BATCH_CARDS}
use Rattle.manifest.proofs.CardAt.{in_first, in_rest}
use Rattle.manifest.proofs.CardIds.{differs, names, or_true}
use Rattle.manifest.proofs.Finding.{card, counted, found_in, named, none_then}
use Rattle.irv_base.proofs.Positions.{some_first}
use Rattle.manifest.proofs.Numbers.{same-equal}

abbrev has_id : Id → Card → Bool
has_id id = λ c. is_same (card_id c) id

-- an id that is among them differs from one that isn't
not_same : (ids : List Id) (a b : Id) → is_among ids a ≡ false → is_among ids b ≡ true → is_same a b ≡ false
not_same ids a b out in_ids = differs a b (λ e. both_ways (is_among ids b) (ap (is_among ids) (sym e) ∙ out) in_ids)

-- the card with number i + 1 is in one of the batches, and is the first with its id
record IsPlaced (ids : List Id) (counts : List ℕ) (i : ℕ) (c : Card) : Type 0 where
  among : is_among ids c.batch ≡ true
  first : 1 ≤ c.k
  most : c.k ≤ MOST_BATCH_CARDS
  placed : position (has_id (card_id c)) (cards_in ids counts) ≡ Some i

same-refl : (a : Id) → is_same a a ≡ true
same-refl a = (bytes_decides a a).1 refl

placed : (ids : List Id) (counts : List ℕ) (i : ℕ) (c : Card) → length counts ≡ length ids → list_all is_batch_id ids ≡ true → all_differ ids ≡ true →
    list_all is_count counts ≡ true
    → slice_get (cards_in ids counts) i ≡ Some c → IsPlaced ids counts i c
placed [] counts i c l v d k h = absurd cc
placed (b ∷ ids) [] i c l v d k h = absurd cc
placed (b ∷ ids) (n ∷ counts) i c l v d k h =
    by (cases_Bool (nat_lt i n)) (λ at. placed ids counts (i - n) c (omega (arith, l)) (named b ids v).1
    (and_parts (not (is_among ids b)) (all_differ ids) d).1 (counted n counts k).1 at) where
      few : n ≤ MOST_BATCH_CARDS
      few = (counted n counts k).0

      in_batch : i < n → IsPlaced (b ∷ ids) (n ∷ counts) i (card b (1 + i))
      in_batch less =
          let one = names (card_id (card b (1 + i))) b (1 + i) refl (omega arith) (omega (arith, less, few)) in
          let e : (1 + i) - 1 ≡ i = omega arith in
          record {
            among = rw (same-refl b) refl;
            first = omega arith;
            most = omega (arith, less, few);
            placed = some_first (has_id (card_id (card b (1 + i)))) (cards_of_batch b n) (cards_in ids counts) i
                (found_in (has_id (card_id (card b (1 + i)))) b (1 + i) 1 n (omega arith) (omega (arith, few)) (omega arith) (omega (arith, less)) one.alone
                ∙ ap Some e);
          }

      later : n ≤ i → IsPlaced ids counts (i - n) c → IsPlaced (b ∷ ids) (n ∷ counts) i c
      later more rest =
          let apart = not-true (is_among ids b) (and_parts (not (is_among ids b)) (all_differ ids) d).0 in
          let other : is_same b c.batch ≡ false = not_same ids b c.batch apart rest.among in
          record {
            among = or_true (is_same b c.batch) (is_among ids c.batch) rest.among;
            first = rest.first;
            most = rest.most;
            placed = none_then (has_id (card_id c)) b n ids counts few
                ((names (card_id c) c.batch c.k refl rest.first rest.most).others b (named b ids v).0 other) ∙ ap (option_map (λ j. n + j)) rest.placed
                ∙ ap Some (omega (arith, more));
          }

      by : (nat_lt i n ≡ true) ⊎ (nat_lt i n ≡ false) → (slice_get (cards_in ids counts) (i - n) ≡ Some c → IsPlaced ids counts (i - n) c) →
          IsPlaced (b ∷ ids) (n ∷ counts) i c
      by (inl t) ih =
          let less : i < n = ltb-true i n t in
          let s : card b (1 + i) ≡ c = (let q = sym (in_first b 1 n i (cards_in ids counts) less) ∙ h in cc) in
          subst (IsPlaced (b ∷ ids) (n ∷ counts) i) s (in_batch less)
      by (inr f) ih =
          let more : n ≤ i = ltb-false i n f in
          let e : i ≡ n + (i - n) = omega (arith, more) in
          later more (ih (sym (in_rest b 1 n (i - n) (cards_in ids counts)) ∙ ap (slice_get (cards_in (b ∷ ids) (n ∷ counts))) (sym e) ∙ h))

at_place : (batches : Batches) (i : ℕ) (c : Card) → AreBatches batches.ids batches.counts → slice_get (cards_of batches) i ≡ Some c →
    position (has_id (card_id c)) (cards_of batches) ≡ Some i
at_place batches i c m h = (placed batches.ids batches.counts i c m.a_count_each m.named m.differ m.counted h).placed

pub place_undoes_card : PlaceUndoesCard
place_undoes_card batches i c m h = ap (option_map (λ j. j + 1)) (at_place batches i c m h)

pub card_ids_differ : CardIdsDiffer
card_ids_differ batches i j c d m h g e =
    let q = sym (at_place batches i c m h) ∙ ap (λ id. position (has_id id) (cards_of batches)) e ∙ at_place batches j d m g in
    cc

pub card_undoes_place : CardUndoesPlace
card_undoes_place batches id i h = by (position (has_id id) (cards_of batches)) refl h where
  by : (o : Option ℕ) → position (has_id id) (cards_of batches) ≡ o → option_map (λ j. j + 1) o ≡ Some (i + 1) →
      (c : Card) × (slice_get (cards_of batches) i ≡ Some c) × (card_id c ≡ id)
  by None e g = absurd cc
  by (Some j) e g =
      let q : j + 1 ≡ i + 1 = cc in
      let s : j ≡ i = omega (arith, q) in
      let p = position-Some (has_id id) (cards_of batches) j (card [] 0) e in (
        get_or (cards_of batches) j (card [] 0),
        ap (slice_get (cards_of batches)) (sym s) ∙ slice_get-get_or (cards_of batches) j (card [] 0) p.0,
        same-equal (card_id (get_or (cards_of batches) j (card [] 0))) id p.1,
      )
