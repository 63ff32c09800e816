-- The margin over linked records is the margin over the ballots: the ballots are assigned to their cards one by one.
use Rattle.std.proofs.Common.{◌≡◌, ◌∙◌, [], ◌+◌, ◌-◌, ◌==◌, ◌<◌, ◌≤◌, ℕ, zero, suc, true, false, not, List, Option, Some, None, length, map, take, drop, get_or, set, sum_by, option_map, position, pos, ◌-ℤ◌, refl, sym, ap, subst, add-one, arith}
use Rattle.std.proofs.lemmas.Int.{ints}
use Rattle.std.proofs.lemmas.Bool.{not_from_false, both_ways}
use Rattle.std.proofs.lemmas.List.{take_more, take_all, length-take-le, length-map, get_or-map}
use Rattle.std.proofs.lemmas.List.Folds.{fold-map, list_any_at, sum_by-replicate}
use Rattle.std.proofs.lemmas.List.Sums.{sum_by-set, sum_by_more}
use Rattle.std.proofs.lemmas.Option.{get_or_from_slice_get, slice_get_within}
use Rattle.irv_base.specs.Names.{Id, is_same, all_differ}
use Rattle.ballots.specs.Ballots.{BallotFile}
use Rattle.ballot_ids.proofs.Differing.{among-set, differ-split}
use Rattle.manifest.specs.BallotNumbers.{ballot_number, ballot_numbers, from_one, recorded_at}
use Rattle.manifest.specs.Cards.{AreBatches, Batches, cards_of, place_of}
use Rattle.manifest.specs.Linked.{first_without_card, has_card, linked_of, recorded_of}
use Rattle.manifest.proofs.Linking.{none_any, none_passes, none_yet, parted, is_placed, isnt_placed, links_one, recorded_all}
use Rattle.manifest.proofs.Placed.{card_undoes_place}
use Rattle.assorters.specs.Cards.{recorded_value}
use Rattle.assorters.specs.Laws.{LinkedMarginLaw}

-- what the first ballots add to the cards
module _ (value : List ℕ → ℕ) (batches : Batches) (ballots : BallotFile) (are : AreBatches batches.ids batches.counts)
    (differ : all_differ ballots.ids ≡ true) (an_id_each : length ballots.ids ≡ length ballots.rankings)
    (placed : first_without_card batches ballots ≡ None) where
  -- the value of a card whose ballot has this number
  abbrev worth : ℕ → ℕ
  worth number = recorded_value value (recorded_at ballots.rankings number)

  -- the first ballots, assigned to their cards
  abbrev put_first : ℕ → List ℕ
  put_first i = ballot_numbers (take i ballots.ids) (cards_of batches)

  has_place : (i : ℕ) → i < length ballots.ids → (place : ℕ) × (place_of (cards_of batches) (get_or ballots.ids i []) ≡ Some place)
  has_place i below = go (place_of (cards_of batches) (get_or ballots.ids i [])) refl where
    unmapped : (o : Option ℕ) → option_map (λ j. get_or ballots.places j 0) o ≡ None → o ≡ None
    unmapped None e = refl
    unmapped (Some j) e = absurd cc

    go : (o : Option ℕ) → place_of (cards_of batches) (get_or ballots.ids i []) ≡ o →
        (place : ℕ) × (place_of (cards_of batches) (get_or ballots.ids i []) ≡ Some place)
    go (Some place) e = (place, e)
    go None e =
        let none = none_any (λ id. not (has_card batches id)) ballots.ids (unmapped (position (λ id. not (has_card batches id)) ballots.ids) placed) in
        let some = list_any_at (λ id. not (has_card batches id)) ballots.ids i [] below
        (not_from_false (has_card batches (get_or ballots.ids i [])) (isnt_placed batches (get_or ballots.ids i []) e)) in
        absurd (both_ways _ none some)

  one_more : (i : ℕ) → i < length ballots.ids → sum_by worth (put_first i) + i ≡ length (cards_of batches) + sum_by value (take i ballots.rankings) →
      sum_by worth (put_first (i + 1)) + (i + 1) ≡ length (cards_of batches) + sum_by value (take (i + 1) ballots.rankings)
  one_more i below so_far =
      let ids = ballots.ids in
      let id : Id = get_or ids i [] in
      let before : List Id = take i ids in
      let out = differ-split before id (drop (i + 1) ids) (ap all_differ (sym (parted ids i [] below)) ∙ differ) in
      let long : length before ≡ i = length-take-le i ids (omega (arith, below)) in
      let (place, at) = has_place i below in
      let p = is_placed batches id place at in
      let next : put_first (i + 1) ≡ set (put_first i) (place - 1) (i + 1) =
      ap (λ x. ballot_numbers x (cards_of batches)) (take_more ids i [] below)
      ∙ links_one batches before id place are at out
      ∙ ap (λ n. set (put_first i) (place - 1) (n + 1)) long in
      let e : place ≡ (place - 1) + 1 = omega (arith, p.0) in
      let (c, found, same) = card_undoes_place batches id (place - 1) (at ∙ ap Some e) in
      let within : place - 1 < length (cards_of batches) = slice_get_within (cards_of batches) (place - 1) c found in
      let fits : place - 1 < length (put_first i) = rw (length-map (cards_of batches) (ballot_number before)) within in
      let free : get_or (put_first i) (place - 1) 0 ≡ 0 =
      get_or-map (ballot_number before) (cards_of batches) (place - 1) c 0 within
      ∙ ap (ballot_number before) (get_or_from_slice_get (cards_of batches) (place - 1) c c found)
      ∙ ap (λ a. from_one (position (is_same a) before)) same
      ∙ ap from_one (none_passes (is_same id) before (among-set before id ∙ out)) in
      let changed = sum_by-set worth (put_first i) (place - 1) (i + 1) 0 fits in
      let old : worth (get_or (put_first i) (place - 1) 0) ≡ 1 = ap worth free in
      let new : worth (i + 1) ≡ value (get_or ballots.rankings i []) = worth_of i in
      let more = sum_by_more value ballots.rankings i [] (omega (arith, below, an_id_each)) in
      let sum = ap (sum_by worth) next in
      omega (arith, so_far, changed, old, new, more, sum)
    where
      worth_of : (i : ℕ) → worth (i + 1) ≡ value (get_or ballots.rankings i [])
      worth_of i =
          let no : (i + 1 == 0) ≡ false = grind arith in
          let back : (i + 1) - 1 ≡ i = omega arith in
          rw (no) (ap (λ n. value (get_or ballots.rankings n [])) back)

  so_many : (i : ℕ) → i ≤ length ballots.ids → sum_by worth (put_first i) + i ≡ length (cards_of batches) + sum_by value (take i ballots.rankings)
  so_many zero below =
      let none = ap (sum_by worth) (sym (none_yet (cards_of batches))) in
      omega (arith, none, sum_by-replicate worth (length (cards_of batches)) 0)
  so_many (suc i) below =
      subst (λ n. sum_by worth (put_first n) + n ≡ length (cards_of batches) + sum_by value (take n ballots.rankings)) (add-one i)
      (one_more i (omega arith) (so_many i (omega arith)))

  pub linked-sum : sum_by (recorded_value value) (linked_of batches ballots) + length ballots.rankings
      ≡ length (linked_of batches ballots) + sum_by value ballots.rankings
  linked-sum =
      let all = so_many (length ballots.ids) (omega arith) in
      let whole = take_all (length ballots.ids) ballots.ids (omega arith) in
      let ranked = take_all (length ballots.ids) ballots.rankings (omega (arith, an_id_each)) in
      let linked : linked_of batches ballots ≡ map (recorded_at ballots.rankings) (ballot_numbers ballots.ids (cards_of batches)) = sym
      (recorded_all ballots.rankings ballots refl (cards_of batches)) in
      let summed = ap (sum_by (recorded_value value)) linked
      ∙ fold-map (λ a r. a + recorded_value value r) (recorded_at ballots.rankings) 0 (ballot_numbers ballots.ids (cards_of batches)) in
      let put = ap (λ ids. sum_by worth (ballot_numbers ids (cards_of batches))) whole in
      let ranks = ap (sum_by value) ranked in
      omega (arith, all, summed, put, ranks, an_id_each, length-map (cards_of batches) (recorded_of ballots))

difference : (s n f a : ℕ) → s + a ≡ n + f → pos s -ℤ pos n ≡ pos f -ℤ pos a
difference s n f a e = omega (arith, ints)

pub linked_margin_law : LinkedMarginLaw
linked_margin_law value batches ballots are sound placed =
    difference (sum_by (recorded_value value) (linked_of batches ballots)) (length (linked_of batches ballots)) (sum_by value ballots.rankings)
    (length ballots.rankings)
    (linked-sum value batches ballots are sound.ballots.differ sound.ballots.an_id_each placed)
