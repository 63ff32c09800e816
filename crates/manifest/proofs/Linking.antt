-- Ballots that are assigned to their cards one by one.
use Rattle.std.proofs.Common.{◌≡◌, ◌∙◌, ◌++◌, ◌∷◌, [], ◌||◌, ◌+◌, ◌-◌, ◌==◌, ◌<◌, ◌≤◌, ℕ, zero, suc, Bool, true, false, not, List, Option, Some, None, length, map, take, drop, get_or, set, replicate, refl, sym, ap, arith}
use Rattle.std.specs.Prelude.{All, option_map, position}
use Rattle.std.specs.Cmp.Lexicographic.{bytes_decides}
use Rattle.std.specs.List.{list_any, slice_get}
use Rattle.std.proofs.lemmas.List.{take-append-drop, take_all, length-take-le, drop_more, take_more}
use Rattle.std.proofs.lemmas.List.Elements.{All-nil, All-cons}
use Rattle.std.proofs.lemmas.List.Folds.{list_any_at}
use Rattle.std.proofs.lemmas.List.Quantifiers.{position-Some}
use Rattle.irv_base.specs.Names.{Id, is_same, is_among, all_differ}
use Rattle.ballots.specs.Ballots.{BallotFile}
use Rattle.ballot_ids.proofs.Differing.{among-set, differ-split, or-false}
use Rattle.manifest.specs.BallotNumbers.{ballot_number, ballot_numbers, from_one, recorded_at}
use Rattle.manifest.specs.Cards.{AreBatches, Batches, card_id, cards_of, place_of}
use Rattle.manifest.specs.Linked.{first_without_card, has_card, ranked_by, recorded_of}
use Rattle.manifest.specs.declared.card.Card.{Card}
use Rattle.manifest.specs.declared.recorded.Recorded.TheVariants.{Ranked}
use Rattle.manifest.proofs.CardIds.{differs}
use Rattle.irv_base.proofs.Positions.{first_place as here, later_place as later, none_first, some_first}
use Rattle.manifest.proofs.Placed.{card_ids_differ, card_undoes_place}

-- ---- the first place of a list that passes a test, and whether there is one

pub none_passes : {X : Type 0} (p : X → Bool) (xs : List X) → list_any p xs ≡ false → position p xs ≡ None
none_passes p [] h = refl
none_passes p (x ∷ xs) h = let (one, rest) = or-false (p x) (list_any p xs) h in later p x xs one ∙ ap (option_map (λ i. 1 + i)) (none_passes p xs rest)

pub one_passes : {X : Type 0} (p : X → Bool) (xs : List X) (i : ℕ) (d : X) → position p xs ≡ Some i → list_any p xs ≡ true
one_passes p xs i d h = let at = position-Some p xs i d h in list_any_at p xs i d at.0 at.1

pub none_any : {X : Type 0} (p : X → Bool) (xs : List X) → position p xs ≡ None → list_any p xs ≡ false
none_any p [] h = refl
none_any p (x ∷ xs) h = by (p x) refl (none_any p xs) where
  unmapped : (o : Option ℕ) → option_map (λ i. 1 + i) o ≡ None → o ≡ None
  unmapped None e = refl
  unmapped (Some j) e = absurd cc

  by : (b : Bool) → p x ≡ b → (position p xs ≡ None → list_any p xs ≡ false) → list_any p (x ∷ xs) ≡ false
  by true t ih = absurd (let q = sym (here p x xs t) ∙ h in cc)
  by false t ih = ap (λ b. b || list_any p xs) t ∙ ih (unmapped (position p xs) (sym (later p x xs t) ∙ h))

still_none : {X : Type 0} (p : X → Bool) (xs : List X) (x : X) → position p xs ≡ None → p x ≡ false → position p (xs ++ x ∷ []) ≡ None
still_none p xs x h f = none_first p xs (x ∷ []) h ∙ ap (option_map (λ i. length xs + i)) (later p x [] f)

pub first_after : {X : Type 0} (p : X → Bool) (xs : List X) (x : X) (rest : List X) → position p xs ≡ None → p x ≡ true →
    position p (xs ++ x ∷ rest) ≡ Some (length xs)
first_after p xs x rest h t = none_first p xs (x ∷ rest) h ∙ ap (option_map (λ i. length xs + i)) (here p x rest t) ∙ ap Some (omega arith)

pub parted : {X : Type 0} (xs : List X) (i : ℕ) (d : X) → i < length xs → xs ≡ take i xs ++ get_or xs i d ∷ drop (i + 1) xs
parted xs i d h = sym (take-append-drop i xs) ∙ ap (λ rest. take i xs ++ rest) (drop_more xs i d h)

-- ---- the numbers of the ballots

pub same-refl : (a : Id) → is_same a a ≡ true
same-refl a = (bytes_decides a a).1 refl

-- a further ballot belongs to no other card
of_another : (ids : List Id) (id : Id) (c : Card) → (card_id c ≡ id → ⊥) → ballot_number (ids ++ id ∷ []) c ≡ ballot_number ids c
of_another ids id c h = ap from_one (by (position (is_same (card_id c)) ids) refl) where
  by : (o : Option ℕ) → position (is_same (card_id c)) ids ≡ o → position (is_same (card_id c)) (ids ++ id ∷ []) ≡ position (is_same (card_id c)) ids
  by None e = still_none (is_same (card_id c)) ids id e (differs (card_id c) id h) ∙ sym e
  by (Some i) e = some_first (is_same (card_id c)) ids (id ∷ []) i e ∙ sym e

of_own : (ids : List Id) (id : Id) (c : Card) → card_id c ≡ id → is_among ids id ≡ false → ballot_number (ids ++ id ∷ []) c ≡ length ids + 1
of_own ids id c e out =
    ap (λ a. from_one (position (is_same a) (ids ++ id ∷ []))) e
    ∙ ap from_one (first_after (is_same id) ids id [] (none_passes (is_same id) ids (among-set ids id ∙ out)) (same-refl id))

of_none : (ids : List Id) (id : Id) (cards : List Card) → ((k : ℕ) (c : Card) → slice_get cards k ≡ Some c → card_id c ≡ id → ⊥) →
    ballot_numbers (ids ++ id ∷ []) cards ≡ ballot_numbers ids cards
of_none ids id [] h = refl
of_none ids id (c ∷ cards) h =
    ap (λ n. n ∷ ballot_numbers (ids ++ id ∷ []) cards) (of_another ids id c (h 0 c refl))
    ∙ ap (λ ns. ballot_number ids c ∷ ns) (of_none ids id cards (λ k. h (suc k)))

put : (ids : List Id) (id : Id) (cards : List Card) (i : ℕ) (c : Card) → slice_get cards i ≡ Some c → card_id c ≡ id →
    ((k : ℕ) (d : Card) → slice_get cards k ≡ Some d → card_id d ≡ id → k ≡ i) → is_among ids id ≡ false
    → ballot_numbers (ids ++ id ∷ []) cards ≡ set (ballot_numbers ids cards) i (length ids + 1)
put ids id [] i c at e alone out = absurd cc
put ids id (d ∷ cards) zero c at e alone out =
    let s : d ≡ c = cc in
    ap (λ n. n ∷ ballot_numbers (ids ++ id ∷ []) cards) (of_own ids id d (ap card_id s ∙ e) out)
    ∙ ap (λ ns. (length ids + 1) ∷ ns) (of_none ids id cards (λ k x g f. let q = alone (suc k) x g f in omega (arith, q)))
put ids id (d ∷ cards) (suc i) c at e alone out =
    ap (λ n. n ∷ ballot_numbers (ids ++ id ∷ []) cards) (of_another ids id d (λ f. let q = alone 0 d refl f in omega (arith, q)))
    ∙ ap (λ ns. ballot_number ids d ∷ ns) (put ids id cards i c at e (λ k x g f. let q = alone (suc k) x g f in omega (arith, q)) out)

pub none_yet : (cards : List Card) → replicate (length cards) 0 ≡ ballot_numbers [] cards
none_yet [] = refl
none_yet (c ∷ cards) = ap (λ ns. 0 ∷ ns) (none_yet cards)

within : (ids : List Id) (c : Card) → ballot_number ids c ≤ length ids
within ids c = by (position (is_same (card_id c)) ids) refl where
  by : (o : Option ℕ) → position (is_same (card_id c)) ids ≡ o → from_one o ≤ length ids
  by None e = omega arith
  by (Some i) e = let at = position-Some (is_same (card_id c)) ids i [] e in omega (arith, at.0)

pub all_within : (n : ℕ) (ids : List Id) (cards : List Card) → length ids ≡ n → All (λ number. number ≤ n) (ballot_numbers ids cards)
all_within n ids [] e = All-nil (λ number. number ≤ n)
all_within n ids (c ∷ cards) e = All-cons (λ number. number ≤ n) (ballot_number ids c) (ballot_numbers ids cards) (omega (arith, within ids c, e))
    (all_within n ids cards e)

-- ---- the ballots so far

pub record IsLinking (batches : Batches) (ids : List Id) (i : ℕ) (numbers : List ℕ) : Type 0 where
  pub numbered : numbers ≡ ballot_numbers (take i ids) (cards_of batches)
  pub all_placed : position (λ id. not (has_card batches id)) (take i ids) ≡ None

-- the card at a place has the id
pub is_placed : (batches : Batches) (id : Id) (place : ℕ) → place_of (cards_of batches) id ≡ Some place →
    (1 ≤ place) × (place ≤ length (cards_of batches)) × (has_card batches id ≡ true)
is_placed batches id place h = by (position (λ card. is_same (card_id card) id) (cards_of batches)) refl h where
  by : (o : Option ℕ) → position (λ card. is_same (card_id card) id) (cards_of batches) ≡ o → option_map (λ i. i + 1) o ≡ Some place →
      (1 ≤ place) × (place ≤ length (cards_of batches)) × (has_card batches id ≡ true)
  by None e g = absurd cc
  by (Some j) e g =
      let s : j + 1 ≡ place = cc in
      let none : Card = record { batch = []; k = 0 } in
      let at = position-Some (λ card. is_same (card_id card) id) (cards_of batches) j none e in
      (omega (arith, s), omega (arith, s, at.0), one_passes (λ card. is_same (card_id card) id) (cards_of batches) j none e)

pub isnt_placed : (batches : Batches) (id : Id) → place_of (cards_of batches) id ≡ None → has_card batches id ≡ false
isnt_placed batches id h = none_any (λ card. is_same (card_id card) id) (cards_of batches)
    (unmapped (position (λ card. is_same (card_id card) id) (cards_of batches)) h) where
      unmapped : (o : Option ℕ) → option_map (λ i. i + 1) o ≡ None → o ≡ None
      unmapped None e = refl
      unmapped (Some j) e = absurd cc

-- the card with that number is the only one with the id
pub links_one : (batches : Batches) (ids : List Id) (id : Id) (place : ℕ) → AreBatches batches.ids batches.counts →
    place_of (cards_of batches) id ≡ Some place → is_among ids id ≡ false
    → ballot_numbers (ids ++ id ∷ []) (cards_of batches) ≡ set (ballot_numbers ids (cards_of batches)) (place - 1) (length ids + 1)
links_one batches ids id place m h out =
    let some = (is_placed batches id place h).0 in
    let e : place ≡ (place - 1) + 1 = omega (arith, some) in
    let (c, at, same) = card_undoes_place batches id (place - 1) (h ∙ ap Some e) in
    put ids id (cards_of batches) (place - 1) c at same (λ k d g f. card_ids_differ batches k (place - 1) d c m g at (f ∙ sym same)) out

pub links_next : (batches : Batches) (ids : List Id) (i place : ℕ) (id : Id) (numbers : List ℕ) → AreBatches batches.ids batches.counts →
    all_differ ids ≡ true → i < length ids → get_or ids i [] ≡ id
    → place_of (cards_of batches) id ≡ Some place → IsLinking batches ids i numbers → IsLinking batches ids (i + 1) (set numbers (place - 1) (i + 1))
links_next batches ids i place id numbers m d below e h so_far =
    let more : take (i + 1) ids ≡ take i ids ++ id ∷ [] = take_more ids i [] below ∙ ap (λ x. take i ids ++ x ∷ []) e in
    let split : ids ≡ take i ids ++ id ∷ drop (i + 1) ids = parted ids i [] below ∙ ap (λ x. take i ids ++ x ∷ drop (i + 1) ids) e in
    let out = differ-split (take i ids) id (drop (i + 1) ids) (ap all_differ (sym split) ∙ d) in
    let len : length (take i ids) ≡ i = length-take-le i ids (omega (arith, below)) in
    record {
      numbered = ap (λ ns. set ns (place - 1) (i + 1)) so_far.numbered
          ∙ ap (λ n. set (ballot_numbers (take i ids) (cards_of batches)) (place - 1) (n + 1)) (sym len)
          ∙ sym (links_one batches (take i ids) id place m h out) ∙ ap (λ before. ballot_numbers before (cards_of batches)) (sym more);
      all_placed = ap (position (λ x. not (has_card batches x))) more
          ∙ still_none (λ x. not (has_card batches x)) (take i ids) id so_far.all_placed (ap not (is_placed batches id place h).2);
    }

pub lacks_card : (batches : Batches) (file : BallotFile) (i at : ℕ) (id : Id) (numbers : List ℕ) → i < length file.ids → get_or file.ids i [] ≡ id →
    get_or file.places i 0 ≡ at
    → place_of (cards_of batches) id ≡ None → IsLinking batches file.ids i numbers → first_without_card batches file ≡ Some at
lacks_card batches file i at id numbers below e p h so_far =
    let ids = file.ids in
    let split : ids ≡ take i ids ++ id ∷ drop (i + 1) ids = parted ids i [] below ∙ ap (λ x. take i ids ++ x ∷ drop (i + 1) ids) e in
    let len : length (take i ids) ≡ i = length-take-le i ids (omega (arith, below)) in
    let first : position (λ x. not (has_card batches x)) ids ≡ Some i =
    ap (position (λ x. not (has_card batches x))) split
    ∙ first_after (λ x. not (has_card batches x)) (take i ids) id (drop (i + 1) ids) so_far.all_placed (ap not (isnt_placed batches id h)) ∙ ap Some len in
    ap (option_map (λ j. get_or file.places j 0)) first ∙ ap Some p

pub all_linked : (batches : Batches) (file : BallotFile) (i : ℕ) (numbers : List ℕ) → i ≡ length file.ids → IsLinking batches file.ids i numbers
    → (numbers ≡ ballot_numbers file.ids (cards_of batches)) × (first_without_card batches file ≡ None)
all_linked batches file i numbers e so_far =
    let whole : take i file.ids ≡ file.ids = ap (λ n. take n file.ids) e ∙ take_all (length file.ids) file.ids (omega arith) in (
      so_far.numbered ∙ ap (λ ids. ballot_numbers ids (cards_of batches)) whole,
      ap (option_map (λ j. get_or file.places j 0)) (ap (position (λ x. not (has_card batches x))) (sym whole) ∙ so_far.all_placed),
    )

-- ---- what is recorded

if_some : (n : ℕ) → (n + 1 == 0) ≡ false
if_some n = grind arith

same_record : (rankings : List (List ℕ)) (file : BallotFile) → rankings ≡ file.rankings → (o : Option ℕ) → recorded_at rankings (from_one o) ≡ ranked_by file o
same_record rankings file e None = refl
same_record rankings file e (Some i) =
    let less : (i + 1) - 1 ≡ i = omega arith in
    rw (if_some i) (ap (λ n. Ranked (get_or rankings n [])) less ∙ ap (λ rs. Ranked (get_or rs i [])) e)

pub recorded_all : (rankings : List (List ℕ)) (file : BallotFile) → rankings ≡ file.rankings → (cards : List Card) →
    map (recorded_at rankings) (ballot_numbers file.ids cards) ≡ map (recorded_of file) cards
recorded_all rankings file e [] = refl
recorded_all rankings file e (c ∷ cards) =
    ap (λ r. r ∷ map (recorded_at rankings) (ballot_numbers file.ids cards)) (same_record rankings file e (position (is_same (card_id c)) file.ids))
    ∙ ap (λ rs. recorded_of file c ∷ rs) (recorded_all rankings file e cards)
