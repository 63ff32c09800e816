-- Which card a ballot is linked to.
use Rattle.std.proofs.Common.{◌≡◌, ◌∙◌, ◌++◌, ◌∷◌, [], ◌+◌, ◌-◌, ℕ, true, List, Some, take, drop, sym, ap, arith}
use Rattle.std.specs.Prelude.{option_map, position}
use Rattle.std.specs.List.{slice_get}
use Rattle.std.proofs.lemmas.List.{length-take-le}
use Rattle.std.proofs.lemmas.Option.{get_or_from_slice_get, slice_get-map, slice_get_within}
use Rattle.irv_base.specs.Names.{Id, is_same, all_differ}
use Rattle.ballot_ids.proofs.Differing.{among-set, differ-split}
use Rattle.manifest.specs.Cards.{card_id, cards_of}
use Rattle.manifest.specs.Laws.{BallotsAreLinked, LinksDiffer}
use Rattle.manifest.specs.Linked.{ranked_by, recorded_of}
use Rattle.manifest.specs.declared.recorded.Recorded.TheVariants.{Ranked}
use Rattle.manifest.proofs.Linking.{first_after, is_placed, none_passes, parted, same-refl}
use Rattle.manifest.proofs.Placed.{card_undoes_place}

position_at : (ids : List Id) (i : ℕ) (id : Id) → all_differ ids ≡ true → slice_get ids i ≡ Some id → position (is_same id) ids ≡ Some i
position_at ids i id d h =
    let below = slice_get_within ids i id h in
    let split : ids ≡ take i ids ++ id ∷ drop (i + 1) ids = parted ids i [] below
    ∙ ap (λ x. take i ids ++ x ∷ drop (i + 1) ids) (get_or_from_slice_get ids i id [] h) in
    let out = differ-split (take i ids) id (drop (i + 1) ids) (ap all_differ (sym split) ∙ d) in
    ap (position (is_same id)) split
    ∙ first_after (is_same id) (take i ids) id (drop (i + 1) ids) (none_passes (is_same id) (take i ids) (among-set (take i ids) id ∙ out)) (same-refl id)
    ∙ ap Some (length-take-le i ids (omega (arith, below)))

pub ballots_are_linked : BallotsAreLinked
ballots_are_linked batches file i k id ranking d h r p =
    let (c, at, same) = card_undoes_place batches id k p in
    slice_get-map (recorded_of file) (cards_of batches) k ∙ ap (option_map (recorded_of file)) at
    ∙ ap (λ a. Some (ranked_by file (position (is_same a) file.ids))) same
    ∙ ap (λ o. Some (ranked_by file o)) (position_at file.ids i id d h)
    ∙ ap (λ x. Some (Ranked x)) (get_or_from_slice_get file.rankings i ranking [] r)

pub links_differ : LinksDiffer
links_differ batches file i j place id other d h g p q =
    let some = (is_placed batches id place p).0 in
    let e : place ≡ (place - 1) + 1 = omega (arith, some) in
    let (c, at, same) = card_undoes_place batches id (place - 1) (p ∙ ap Some e) in
    let (b, at_b, same_b) = card_undoes_place batches other (place - 1) (q ∙ ap Some e) in
    let one = sym at ∙ at_b in
    let cards : c ≡ b = cc in
    let ids : id ≡ other = sym same ∙ ap card_id cards ∙ same_b in
    let two = sym (position_at file.ids i id d h) ∙ ap (λ a. position (is_same a) file.ids) ids ∙ position_at file.ids j other d g in
    cc
