-- The place of a card in the list of all cards.
use Rattle.std.proofs.Common.{◌⊎◌, inl, inr, ◌≡◌, ◌∙◌, ◌∷◌, [], ◌+◌, ◌-◌, ◌<◌, ◌≤◌, ℕ, zero, suc, Bool, true, false, not, List, Option, Some, None, length, map, take, get_or, nat_le, refl, sym, ap, subst, arith, leb-true, ltb-true, ltb-false, ◌≢◌, nat_lt}
use Rattle.std.specs.Prelude.{option_map, position}
use Rattle.std.specs.List.{list_all, range_with_len, sum}
use Rattle.std.proofs.lemmas.Bool.{and_parts, cases_Bool, not-true}
use Rattle.std.proofs.lemmas.Cmp.{nat_list_eq_equiv}
use Rattle.std.proofs.lemmas.List.FromFn.{length-map-range_with_len}
use Rattle.irv_base.specs.Names.{Id, is_same, is_among, all_differ}
use Rattle.ballot_ids.proofs.Differing.{or-false}
use Rattle.irv_base.proofs.Positions.{first_place, later_place, none_first, some_first}
use Rattle.manifest.specs.Cards.{is_batch_id, is_count, cards_in, cards_of_batch}
use Rattle.manifest.specs.declared.card.Card.{Card}
use Rattle.manifest.specs.declared.limits.TheConstants.{MOST_BATCH_CARDS}
use Rattle.manifest.proofs.CardAt.{sum-cons}
use Rattle.manifest.proofs.Numbers.{same-equal}

-- ---- cards of one batch

abbrev pub card : Id → ℕ → Card
card b k = record { batch = b; k = k }

-- no card with a possible number passes in a batch with this id
abbrev pub NonePasses : (Card → Bool) → Id → Type 0
NonePasses p b = (k : ℕ) → 1 ≤ k → k ≤ MOST_BATCH_CARDS → p (card b k) ≡ false

none_of : (p : Card → Bool) (b : Id) (a n : ℕ) → 1 ≤ a → a + n ≤ MOST_BATCH_CARDS + 1 → NonePasses p b → position p (map (card b) (range_with_len a n)) ≡ None
none_of p b a zero l m h = refl
none_of p b a (suc n) l m h = later_place p (card b a) (map (card b) (range_with_len (a + 1) n)) (h a l (omega (arith, m)))
    ∙ ap (option_map (λ i. 1 + i)) (none_of p b (a + 1) n (omega (arith, l)) (omega (arith, m)) h)

-- only the card with number k passes
pub record PassesAlone (p : Card → Bool) (b : Id) (k : ℕ) : Type 0 where
  pub passes : p (card b k) ≡ true
  pub alone : (j : ℕ) → 1 ≤ j → j ≤ MOST_BATCH_CARDS → j ≢ k → p (card b j) ≡ false

pub found_in : (p : Card → Bool) (b : Id) (k a n : ℕ) → 1 ≤ a → a + n ≤ MOST_BATCH_CARDS + 1 → a ≤ k → k < a + n → PassesAlone p b k →
    position p (map (card b) (range_with_len a n)) ≡ Some (k - a)
found_in p b k a zero l m low high h = absurd (omega (arith, low, high))
found_in p b k a (suc n) l m low high h =
    by (cases_Bool (nat_lt a k)) (λ next. found_in p b k (a + 1) n (omega (arith, l)) (omega (arith, m)) next (omega (arith, high)) h) where
      rest : position p (map (card b) (range_with_len (a + 1) n)) ≡ Some (k - (a + 1)) → a < k →
          position p (map (card b) (range_with_len a (suc n))) ≡ Some (k - a)
      rest e less =
          let e' : 1 + (k - (a + 1)) ≡ k - a = omega (arith, less) in
          later_place p (card b a) (map (card b) (range_with_len (a + 1) n)) (h.alone a l (omega (arith, m)) (λ s. omega (arith, s, less)))
          ∙ ap (option_map (λ i. 1 + i)) e ∙ ap Some e'

      by : (nat_lt a k ≡ true) ⊎ (nat_lt a k ≡ false) → (a + 1 ≤ k → position p (map (card b) (range_with_len (a + 1) n)) ≡ Some (k - (a + 1))) →
          position p (map (card b) (range_with_len a (suc n))) ≡ Some (k - a)
      by (inl t) ih = let less : a < k = ltb-true a k t in rest (ih (omega (arith, less))) less
      by (inr f) ih =
          let same : a ≡ k = omega (arith, low, ltb-false a k f) in
          first_place p (card b a) (map (card b) (range_with_len (a + 1) n)) (ap (λ j. p (card b j)) same ∙ h.passes) ∙ ap Some (omega (arith, same))

past_in : (p : Card → Bool) (b : Id) (k a n : ℕ) → 1 ≤ a → a + n ≤ MOST_BATCH_CARDS + 1 → a + n ≤ k → PassesAlone p b k →
    position p (map (card b) (range_with_len a n)) ≡ None
past_in p b k a zero l m past h = refl
past_in p b k a (suc n) l m past h =
    later_place p (card b a) (map (card b) (range_with_len (a + 1) n)) (h.alone a l (omega (arith, m)) (λ s. omega (arith, s, past)))
    ∙ ap (option_map (λ i. 1 + i)) (past_in p b k (a + 1) n (omega (arith, l)) (omega (arith, m)) (omega (arith, past)) h)

-- ---- cards of all batches

pub counted : (n : ℕ) (counts : List ℕ) → list_all is_count (n ∷ counts) ≡ true → (n ≤ MOST_BATCH_CARDS) × (list_all is_count counts ≡ true)
counted n counts h =
    let (one, all) = and_parts (is_count n) (list_all is_count counts) h in
    (leb-true n MOST_BATCH_CARDS (and_parts (nat_le 1 n) (nat_le n MOST_BATCH_CARDS) one).1, all)

pub none_then : (p : Card → Bool) (b : Id) (n : ℕ) (ids : List Id) (counts : List ℕ) → n ≤ MOST_BATCH_CARDS → NonePasses p b
    → position p (cards_in (b ∷ ids) (n ∷ counts)) ≡ option_map (λ i. n + i) (position p (cards_in ids counts))
none_then p b n ids counts few h =
    none_first p (cards_of_batch b n) (cards_in ids counts) (none_of p b 1 n (omega arith) (omega (arith, few)) h)
    ∙ ap (λ l. option_map (λ i. l + i) (position p (cards_in ids counts))) (length-map-range_with_len (card b) 1 n)

-- ---- only one card passes, in the batch with one id

pub record Names (p : Card → Bool) (id : Id) (k : ℕ) : Type 0 where
  pub first : 1 ≤ k
  pub alone : PassesAlone p id k
  pub others : (b : Id) → is_batch_id b ≡ true → is_same b id ≡ false → NonePasses p b

same-comm : (a b : Id) → is_same a b ≡ is_same b a
same-comm a b = nat_list_eq_equiv.symm a b

pub named : (b : Id) (ids : List Id) → list_all is_batch_id (b ∷ ids) ≡ true → (is_batch_id b ≡ true) × (list_all is_batch_id ids ≡ true)
named b ids h = and_parts (is_batch_id b) (list_all is_batch_id ids) h

-- no card of any batch passes
pub nowhere : (p : Card → Bool) (ids : List Id) (counts : List ℕ) → list_all is_batch_id ids ≡ true → list_all is_count counts ≡ true
    → ((b : Id) → is_batch_id b ≡ true → NonePasses p b) → position p (cards_in ids counts) ≡ None
nowhere p [] counts v c h = refl
nowhere p (b ∷ ids) [] v c h = refl
nowhere p (b ∷ ids) (n ∷ counts) v c h =
    none_then p b n ids counts (counted n counts c).0 (h b (named b ids v).0)
    ∙ ap (option_map (λ i. n + i)) (nowhere p ids counts (named b ids v).1 (counted n counts c).1 h)

-- no batch has the id
pub absent : (p : Card → Bool) (id : Id) (k : ℕ) (ids : List Id) (counts : List ℕ) → list_all is_batch_id ids ≡ true → list_all is_count counts ≡ true →
    Names p id k
    → is_among ids id ≡ false → position p (cards_in ids counts) ≡ None
absent p id k [] counts v c h none = refl
absent p id k (b ∷ ids) [] v c h none = refl
absent p id k (b ∷ ids) (n ∷ counts) v c h none =
    let (here, there) = or-false (is_same b id) (is_among ids id) none in
    none_then p b n ids counts (counted n counts c).0 (h.others b (named b ids v).0 here)
    ∙ ap (option_map (λ i. n + i)) (absent p id k ids counts (named b ids v).1 (counted n counts c).1 h there)

-- the batch with number i has the id, and has at least k cards
pub found : (p : Card → Bool) (id : Id) (k i : ℕ) (ids : List Id) (counts : List ℕ) → length counts ≡ length ids → list_all is_batch_id ids ≡ true →
    list_all is_count counts ≡ true → Names p id k
    → position (is_same id) ids ≡ Some i → k ≤ get_or counts i 0 → position p (cards_in ids counts) ≡ Some (sum (take i counts) + (k - 1))
found p id k i [] counts l v c h at few = absurd cc
found p id k i (b ∷ ids) [] l v c h at few = absurd (omega (arith, l))
found p id k i (b ∷ ids) (n ∷ counts) l v c h at few =
    by (is_same id b) refl (λ j e within. found p id k j ids counts (omega (arith, l)) (named b ids v).1 (counted n counts c).1 h e within) where
      Goal : ℕ → Type 0
      Goal j = k ≤ get_or (n ∷ counts) j 0 → position p (cards_in (b ∷ ids) (n ∷ counts)) ≡ Some (sum (take j (n ∷ counts)) + (k - 1))

      at_first : is_same id b ≡ true → Goal 0
      at_first t within =
          let e : id ≡ b = same-equal id b t in
          some_first p (cards_of_batch b n) (cards_in ids counts) (k - 1)
          (found_in p b k 1 n (omega arith) (omega (arith, (counted n counts c).0)) h.first (omega (arith, within)) (subst (λ d. PassesAlone p d k) e h.alone))
          ∙ ap Some (let e0 : sum [] ≡ 0 = refl in omega (arith, e0))

      shift : (j : ℕ) → option_map (λ x. n + x) (Some (sum (take j counts) + (k - 1))) ≡ Some (sum (take (suc j) (n ∷ counts)) + (k - 1))
      shift j = ap Some (omega (arith, sum-cons n (take j counts)))

      in_rest : is_same id b ≡ false → (o : Option ℕ) → position (is_same id) ids ≡ o → option_map (λ j. 1 + j) o ≡ Some i
          → ((j : ℕ) → position (is_same id) ids ≡ Some j → k ≤ get_or counts j 0 → position p (cards_in ids counts) ≡ Some (sum (take j counts) + (k - 1))) →
          Goal i
      in_rest t None e g ih = absurd cc
      in_rest t (Some j) e g ih =
          let q : 1 + j ≡ i = cc in
          let s : suc j ≡ i = omega (arith, q) in
          subst Goal s (λ within.
          none_then p b n ids counts (counted n counts c).0 (h.others b (named b ids v).0 (same-comm b id ∙ t))
          ∙ ap (option_map (λ x. n + x)) (ih j e within) ∙ shift j)

      by : (x : Bool) → is_same id b ≡ x → ((j : ℕ) → position (is_same id) ids ≡ Some j → k ≤ get_or counts j 0 →
          position p (cards_in ids counts) ≡ Some (sum (take j counts) + (k - 1)))
          → position p (cards_in (b ∷ ids) (n ∷ counts)) ≡ Some (sum (take i (n ∷ counts)) + (k - 1))
      by true t ih = let e : 0 ≡ i = (let q = sym (first_place (is_same id) b ids t) ∙ at in cc) in subst Goal e (at_first t) few
      by false t ih = in_rest t (position (is_same id) ids) refl (sym (later_place (is_same id) b ids t) ∙ at) ih few

-- the batch has fewer cards
pub past : (p : Card → Bool) (id : Id) (k i : ℕ) (ids : List Id) (counts : List ℕ) → length counts ≡ length ids → list_all is_batch_id ids ≡ true →
    all_differ ids ≡ true → list_all is_count counts ≡ true → Names p id k
    → position (is_same id) ids ≡ Some i → get_or counts i 0 < k → position p (cards_in ids counts) ≡ None
past p id k i [] counts l v d c h at few = absurd cc
past p id k i (b ∷ ids) [] l v d c h at few = absurd (omega (arith, l))
past p id k i (b ∷ ids) (n ∷ counts) l v d c h at few =
    by (is_same id b) refl (λ j e less. past p id k j ids counts (omega (arith, l)) (named b ids v).1 apart.1 (counted n counts c).1 h e less) where
      Goal : ℕ → Type 0
      Goal j = get_or (n ∷ counts) j 0 < k → position p (cards_in (b ∷ ids) (n ∷ counts)) ≡ None

      apart : (not (is_among ids b) ≡ true) × (all_differ ids ≡ true)
      apart = and_parts (not (is_among ids b)) (all_differ ids) d

      at_first : is_same id b ≡ true → Goal 0
      at_first t less =
          let e : id ≡ b = same-equal id b t in
          none_first p (cards_of_batch b n) (cards_in ids counts)
          (past_in p b k 1 n (omega arith) (omega (arith, (counted n counts c).0)) (omega (arith, less)) (subst (λ x. PassesAlone p x k) e h.alone))
          ∙ ap (option_map (λ j. length (cards_of_batch b n) + j))
          (absent p id k ids counts (named b ids v).1 (counted n counts c).1 h (ap (is_among ids) e ∙ not-true (is_among ids b) apart.0))

      in_rest : is_same id b ≡ false → (o : Option ℕ) → position (is_same id) ids ≡ o → option_map (λ j. 1 + j) o ≡ Some i
          → ((j : ℕ) → position (is_same id) ids ≡ Some j → get_or counts j 0 < k → position p (cards_in ids counts) ≡ None) → Goal i
      in_rest t None e g ih = absurd cc
      in_rest t (Some j) e g ih =
          let q : 1 + j ≡ i = cc in
          let s : suc j ≡ i = omega (arith, q) in
          subst Goal s (λ less.
          none_then p b n ids counts (counted n counts c).0 (h.others b (named b ids v).0 (same-comm b id ∙ t))
          ∙ ap (option_map (λ x. n + x)) (ih j e less))

      by : (x : Bool) → is_same id b ≡ x → ((j : ℕ) → position (is_same id) ids ≡ Some j → get_or counts j 0 < k → position p (cards_in ids counts) ≡ None) →
          position p (cards_in (b ∷ ids) (n ∷ counts)) ≡ None
      by true t ih = let e : 0 ≡ i = (let q = sym (first_place (is_same id) b ids t) ∙ at in cc) in subst Goal e (at_first t) few
      by false t ih = in_rest t (position (is_same id) ids) refl (sym (later_place (is_same id) b ids t) ∙ at) ih few

-- ---- the first cards of the batches

pub within_sum : (counts : List ℕ) (i : ℕ) → sum (take i counts) + get_or counts i 0 ≤ sum counts
within_sum [] zero = let e : sum [] ≡ 0 = refl in omega (arith, e)
within_sum [] (suc i) = let e : sum [] ≡ 0 = refl in omega (arith, e)
within_sum (n ∷ counts) zero = let e : sum [] ≡ 0 = refl in omega (arith, e, sum-cons n counts)
within_sum (n ∷ counts) (suc i) = omega (arith, within_sum counts i, sum-cons n counts, sum-cons n (take i counts))
