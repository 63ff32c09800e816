-- The card with a number, batch by batch.
use Rattle.std.proofs.Common.{◌≡◌, ◌∙◌, ◌++◌, ◌∷◌, [], ◌+◌, ◌-◌, ◌<◌, ◌≤◌, ℕ, zero, suc, List, Some, length, take, get_or, map, inl, inr, refl, ap, arith, length-append}
use Rattle.std.specs.List.{range_with_len, slice_get, sum}
use Rattle.std.proofs.Math.Nat.{eq-or-lt_of_le}
use Rattle.std.proofs.lemmas.List.{take_all}
use Rattle.std.proofs.lemmas.List.FromFn.{length-map-range_with_len}
use Rattle.std.proofs.lemmas.List.Sums.{sum_by-cons}
use Rattle.irv_base.specs.Names.{Id}
use Rattle.manifest.specs.Cards.{cards_in, cards_of_batch}
use Rattle.manifest.specs.Firsts.{firsts_from}
use Rattle.manifest.specs.declared.card.Card.{Card}

abbrev pub card : Id → ℕ → Card
card b k = record { batch = b; k = k }

pub in_first : (b : Id) (a n i : ℕ) (rest : List Card) → i < n → slice_get (map (card b) (range_with_len a n) ++ rest) i ≡ Some (card b (a + i))
in_first b a zero i rest h = absurd (omega (arith, h))
in_first b a (suc n) zero rest h = ap (λ k. Some (card b k)) (omega arith)
in_first b a (suc n) (suc i) rest h = in_first b (a + 1) n i rest (omega (arith, h)) ∙ ap (λ k. Some (card b k)) (omega arith)

pub in_rest : (b : Id) (a n i : ℕ) (rest : List Card) → slice_get (map (card b) (range_with_len a n) ++ rest) (n + i) ≡ slice_get rest i
in_rest b a zero i rest = let e : 0 + i ≡ i = omega arith in ap (λ j. slice_get rest j) e
in_rest b a (suc n) i rest = let e : suc n + i ≡ suc (n + i) = omega arith in ap (λ j. slice_get (map (card b) (range_with_len a (suc n)) ++ rest) j) e
    ∙ in_rest b (a + 1) n i rest

pub sum-cons : (n : ℕ) (counts : List ℕ) → sum (n ∷ counts) ≡ n + sum counts
sum-cons n counts = sum_by-cons (λ x. x) n counts

pub length-cards : (ids : List Id) (counts : List ℕ) → length counts ≡ length ids → length (cards_in ids counts) ≡ sum counts
length-cards [] [] h = refl
length-cards [] (n ∷ counts) h = absurd (omega (arith, h))
length-cards (id ∷ ids) [] h = absurd (omega (arith, h))
length-cards (id ∷ ids) (n ∷ counts) h =
    omega (
      arith,
      length-append (cards_of_batch id n) (cards_in ids counts),
      length-map-range_with_len (card id) 1 n,
      length-cards ids counts (omega (arith, h)),
      sum-cons n counts,
    )

-- ---- the card with number j + 1 of batch b

pub card-in : (ids : List Id) (counts : List ℕ) (b j : ℕ) → length counts ≡ length ids → b < length counts → j < get_or counts b 0
    → slice_get (cards_in ids counts) (sum (take b counts) + j) ≡ Some (card (get_or ids b []) (j + 1))
card-in [] [] b j same within less = absurd (omega (arith, within))
card-in [] (n ∷ counts) b j same within less = absurd (omega (arith, same))
card-in (id ∷ ids) [] b j same within less = absurd (omega (arith, within))
card-in (id ∷ ids) (n ∷ counts) zero j same within less =
    let none : sum [] ≡ 0 = refl in
    let e : sum (take 0 (n ∷ counts)) + j ≡ j = omega (arith, none) in
    ap (slice_get (cards_in (id ∷ ids) (n ∷ counts))) e ∙ in_first id 1 n j (cards_in ids counts) less ∙ ap (λ k. Some (card id k)) (omega arith)
card-in (id ∷ ids) (n ∷ counts) (suc b) j same within less =
    let e : sum (take (suc b) (n ∷ counts)) + j ≡ n + (sum (take b counts) + j) = omega (arith, sum-cons n (take b counts)) in
    ap (slice_get (cards_in (id ∷ ids) (n ∷ counts))) e ∙ in_rest id 1 n (sum (take b counts) + j) (cards_in ids counts)
    ∙ card-in ids counts b j (omega (arith, same)) (omega (arith, within)) less

sum-next : (counts : List ℕ) (b : ℕ) → b < length counts → sum (take (b + 1) counts) ≡ sum (take b counts) + get_or counts b 0
sum-next [] b less = absurd (omega (arith, less))
sum-next (n ∷ counts) zero less = let none : sum [] ≡ 0 = refl in omega (arith, none, sum-cons n [])
sum-next (n ∷ counts) (suc b) less =
    let e : suc b + 1 ≡ suc (b + 1) = omega arith in
    ap (λ k. sum (take k (n ∷ counts))) e
    ∙ omega (arith, sum-cons n (take (b + 1) counts), sum-cons n (take b counts), sum-next counts b (omega (arith, less)))

pub length-firsts : (a : ℕ) (counts : List ℕ) → length (firsts_from a counts) ≡ length counts
length-firsts a [] = refl
length-firsts a (n ∷ counts) = ap suc (length-firsts (a + n) counts)

pub first_at : (a : ℕ) (counts : List ℕ) (i : ℕ) → i < length counts → get_or (firsts_from a counts) i 0 ≡ a + sum (take i counts)
first_at a [] i less = absurd (omega (arith, less))
first_at a (n ∷ counts) zero less = let none : sum [] ≡ 0 = refl in omega (arith, none)
first_at a (n ∷ counts) (suc i) less = omega (arith, first_at (a + n) counts i (omega (arith, less)), sum-cons n (take i counts))

-- card i is in batch b: it doesn't come before the first card of this batch, but comes before the first card of the next one
pub in_batch : (counts firsts : List ℕ) (i b : ℕ) → firsts ≡ firsts_from 1 counts → i ≤ sum counts → b < length counts → get_or firsts b 0 ≤ i
    → (b + 1 < length firsts → i < get_or firsts (b + 1) 0) → i - get_or firsts b 0 < get_or counts b 0
in_batch counts firsts i b e most within begun last =
    let first = ap (λ fs. get_or fs b 0) e ∙ first_at 1 counts b within in
    let all = ap length e ∙ length-firsts 1 counts in
    elim (eq-or-lt_of_le {n = b + 1} {m = length counts} (omega (arith, within))) [
      | inr less ↦
          let next = ap (λ fs. get_or fs (b + 1) 0) e ∙ first_at 1 counts (b + 1) less in
          omega (arith, first, next, sum-next counts b within, last (omega (arith, less, all)), begun)
      | inl end ↦ omega (arith, first, ap sum (take_all (b + 1) counts (omega (arith, end))), sum-next counts b within, most, begun)
    ]

pub card-at : (ids : List Id) (counts firsts : List ℕ) (i b : ℕ) → length counts ≡ length ids → firsts ≡ firsts_from 1 counts → i ≤ sum counts →
    b < length counts
    → get_or firsts b 0 ≤ i → (b + 1 < length firsts → i < get_or firsts (b + 1) 0)
    → slice_get (cards_in ids counts) (i - 1) ≡ Some (card (get_or ids b []) (i - get_or firsts b 0 + 1))
card-at ids counts firsts i b same e most within begun last =
    let first = ap (λ fs. get_or fs b 0) e ∙ first_at 1 counts b within in
    let place : i - 1 ≡ sum (take b counts) + (i - get_or firsts b 0) = omega (arith, first, begun) in
    ap (slice_get (cards_in ids counts)) place ∙ card-in ids counts b (i - get_or firsts b 0) same within (in_batch counts firsts i b e most within begun last)

pub first_first : (counts : List ℕ) → 1 ≤ length counts → get_or (firsts_from 1 counts) 0 0 ≡ 1
first_first [] some = absurd (omega (arith, some))
first_first (n ∷ counts) some = refl
