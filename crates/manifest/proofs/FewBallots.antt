-- There are at most as many ballots as cards if the ballots have cards.
use Rattle.std.proofs.Common.{◌≡◌, ℕ, ◌≤◌, true, false, not, List, [], ◌∷◌, length, map, position, Option, None, Some, option_map, inl, inr, refl, ap, subst, arith}
use Rattle.std.specs.List.{list_any}
use Rattle.std.proofs.lemmas.Bool.{and_parts, cases_Bool, both_ways, not-true}
use Rattle.std.proofs.lemmas.List.{length-map}
use Rattle.irv_base.specs.Names.{Id, is_same, is_among, all_differ}
use Rattle.irv_base.proofs.Distinct.{Distinct, none, more, distinct-le}
use Rattle.irv_base.proofs.Members.{Member, member-map, from_list_any, list_any-member}
use Rattle.ballots.specs.Ballots.{BallotFile}
use Rattle.manifest.specs.Cards.{Batches, cards_of, card_id}
use Rattle.manifest.specs.Linked.{has_card, first_without_card}
use Rattle.manifest.proofs.Linking.{none_any, same-refl}
use Rattle.manifest.proofs.Numbers.{same-equal}

distinct-ids : (ids : List Id) → all_differ ids ≡ true → Distinct ids
distinct-ids [] h = none
distinct-ids (id ∷ rest) h =
    let (out, differ) = and_parts (not (is_among rest id)) (all_differ rest) h in
    more (λ m. both_ways (is_among rest id) (not-true (is_among rest id) out) (list_any-member (λ other. is_same other id) {x = id} m (same-refl id)))
    (distinct-ids rest differ)

map-none : {A B : Type 0} (f : A → B) (o : Option A) → option_map f o ≡ None → o ≡ None
map-none f None h = refl
map-none f (Some x) h = absurd cc

each-carded : (batches : Batches) (file : BallotFile) → first_without_card batches file ≡ None → (id : Id) → Member id file.ids →
    Member id (map card_id (cards_of batches))
each-carded batches file placed id m =
    let without : list_any (λ id. not (has_card batches id)) file.ids ≡ false = none_any (λ id. not (has_card batches id)) file.ids
    (map-none _ (position (λ id. not (has_card batches id)) file.ids) placed) in
    elim (cases_Bool (has_card batches id)) [
      | inl t ↦
          let (card, k, same) = from_list_any (λ card. is_same (card_id card) id) (cards_of batches) t in
          subst (λ id. Member id (map card_id (cards_of batches))) (same-equal (card_id card) id same) (member-map card_id k)
      | inr f ↦
          absurd (both_ways (list_any (λ id. not (has_card batches id)) file.ids) without
          (list_any-member (λ id. not (has_card batches id)) {x = id} m (ap not f)))
    ]

pub few_ballots : (batches : Batches) (file : BallotFile) → all_differ file.ids ≡ true → length file.ids ≡ length file.rankings →
    first_without_card batches file ≡ None → length file.rankings ≤ length (cards_of batches)
few_ballots batches file differ long placed =
    let few = distinct-le file.ids (map card_id (cards_of batches)) (distinct-ids file.ids differ) (each-carded batches file placed) in
    omega (arith, few, long, length-map (cards_of batches) card_id)
