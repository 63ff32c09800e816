-- Of all NENs of a candidate over those after it, the best is the one over the candidate with the fewest votes.
use Rattle.std.proofs.Common.{◌≡◌, ◌==◌, ◌&&◌, ◌||◌, ℕ, ◌+◌, ◌-◌, ◌/◌, ◌%◌, ◌^◌, ◌<◌, ◌≤◌, min, nat_lt, Bool, true, false, inl, inr, Option, Some, None, List, [], ◌∷◌, cond, length, get_or, drop, refl, sym, subst, ap, ap₂, arith, lt-ltb, ltb-true, eq-eqb, eqb-true, ◌∙◌}
use Rattle.std.proofs.lemmas.Bool.{and_from, and_parts, both_ways, cases_Bool, cases_eq, cases_lt, or_cases, or_left, or_right}
use Rattle.std.proofs.lemmas.List.{drop_more}
use Rattle.irv_base.specs.declared.limits.TheConstants.{ROOM}
use Rattle.assertions.specs.declared.assertion.Assertion.{Assertion}
use Rattle.assertions.specs.declared.assertion.Assertion.TheVariants.{Nen}
use Rattle.assertions.specs.FixedOrder.{is_before, key}
use Rattle.assertions.specs.Lists.{stands_before}
use Rattle.assertions.specs.Scores.{Score, offered, is_before_that}
use Rattle.assertions.proofs.Backwards.{stands_before-chain}
use Rattle.assertions.proofs.FixedOrders.{before-not_both}
use Rattle.suffix_tree.specs.Offers.{with_nens, with_standing}

abbrev is_better : Score → ℕ → Assertion → Bool
is_better score margin a = nat_lt score.low margin || ((score.low == margin) && is_before_that a score.by)

-- NENs with the same winner and set are in the order of their losers
nen-before : (c l d set : ℕ) → l < d → is_before (Nen c l set) (Nen c d set) ≡ true
nen-before c l d set h =
    let losers : stands_before (l ∷ set ∷ []) (d ∷ set ∷ []) ≡ true = or_left (nat_lt l d) ((l == d) && stands_before (set ∷ []) (set ∷ [])) (lt-ltb l d h) in
    or_right (nat_lt c c) ((c == c) && stands_before (l ∷ set ∷ []) (d ∷ set ∷ []))
    (and_from (c == c) (stands_before (l ∷ set ∷ []) (d ∷ set ∷ [])) (eq-eqb c c refl) losers)

before-least : (c l d set : ℕ) (by : Option Assertion) → l ≤ d → is_before_that (Nen c d set) by ≡ true → is_before_that (Nen c l set) by ≡ true
before-least c l d set None h k = cc
before-least c l d set (Some b) h k = elim (cases_eq l d) [
  | inl e ↦ subst (λ x. is_before (Nen c x set) b ≡ true) (sym e) k
  | inr ne ↦ stands_before-chain (key (Nen c l set)) (key (Nen c d set)) (key b) (nen-before c l d set (omega (arith, ne))) k
]

-- if a greater number is better than something, so is a smaller number
module _ (c set for_winner : ℕ) where
  abbrev better : Score → ℕ → Bool
  better s k = is_better s (for_winner - k / 2 ^ 8) (Nen c (k % 2 ^ 8) set)

  better-less : (s : Score) (j k : ℕ) → j ≤ k → k / 2 ^ 8 ≤ for_winner → better s k ≡ true → better s j ≡ true
  better-less s j k h most b =
      let high : ℕ = for_winner - j / 2 ^ 8 in
      let low : ℕ = for_winner - k / 2 ^ 8 in
      elim (or_cases (nat_lt s.low low) ((s.low == low) && is_before_that (Nen c (k % 2 ^ 8) set) s.by) b) [
        | inl l ↦
            let lt : s.low < low = ltb-true s.low low l in
            or_left (nat_lt s.low high) ((s.low == high) && is_before_that (Nen c (j % 2 ^ 8) set) s.by) (lt-ltb s.low high (omega arith))
        | inr r ↦
            let (e, first) = and_parts (s.low == low) (is_before_that (Nen c (k % 2 ^ 8) set) s.by) r in
            let e' : s.low ≡ low = eqb-true s.low low e in
            elim (cases_lt s.low high) [
              | inl lt ↦ or_left (nat_lt s.low high) ((s.low == high) && is_before_that (Nen c (j % 2 ^ 8) set) s.by) (lt-ltb s.low high lt)
              | inr ge ↦
                  let same : s.low ≡ high = omega (arith, ge) in
                  or_right (nat_lt s.low high) ((s.low == high) && is_before_that (Nen c (j % 2 ^ 8) set) s.by)
                  (and_from (s.low == high) (is_before_that (Nen c (j % 2 ^ 8) set) s.by) (eq-eqb s.low high same)
                  (before-least c (j % 2 ^ 8) (k % 2 ^ 8) set s.by (omega arith) first))
            ]
      ]

  abbrev chosen : ℕ → Score
  chosen k = record { low = for_winner - k / 2 ^ 8; by = Some (Nen c (k % 2 ^ 8) set) }

  -- compared with a chosen number, the smaller number is better
  better-chosen : (j k : ℕ) → j < k → k / 2 ^ 8 ≤ for_winner → better (chosen k) j ≡ true
  better-chosen j k h most =
      let high : ℕ = for_winner - j / 2 ^ 8 in
      let low : ℕ = for_winner - k / 2 ^ 8 in
      elim (cases_lt low high) [
        | inl lt ↦ or_left (nat_lt low high) ((low == high) && is_before (Nen c (j % 2 ^ 8) set) (Nen c (k % 2 ^ 8) set)) (lt-ltb low high lt)
        | inr ge ↦
            let same : low ≡ high = omega (arith, ge) in
            or_right (nat_lt low high) ((low == high) && is_before (Nen c (j % 2 ^ 8) set) (Nen c (k % 2 ^ 8) set))
            (and_from (low == high) (is_before (Nen c (j % 2 ^ 8) set) (Nen c (k % 2 ^ 8) set)) (eq-eqb low high same)
            (nen-before c (j % 2 ^ 8) (k % 2 ^ 8) set (omega arith)))
      ]

  never-itself : (k : ℕ) → better (chosen k) k ≡ true → ⊥
  never-itself k b =
      let low : ℕ = for_winner - k / 2 ^ 8 in
      let a : Assertion = Nen c (k % 2 ^ 8) set in
      elim (or_cases (nat_lt low low) ((low == low) && is_before a a) b) [
        | inl l ↦ let lt : low < low = ltb-true low low l in omega arith
        | inr r ↦ let first : is_before a a ≡ true = (and_parts (low == low) (is_before a a) r).1 in before-not_both a a first first
      ]

  abbrev offer_one : Score → ℕ → Score
  offer_one s k = with_standing for_winner c set s k

  offer_one-is : (s : Score) (k : ℕ) → offer_one s k ≡ cond (better s k) (chosen k) s
  offer_one-is s k = refl

  taken : (s : Score) (k : ℕ) → better s k ≡ true → offer_one s k ≡ chosen k
  taken s k b = offer_one-is s k ∙ ap (λ x. cond x (chosen k) s) b

  left : (s : Score) (k : ℕ) → better s k ≡ false → offer_one s k ≡ s
  left s k b = offer_one-is s k ∙ ap (λ x. cond x (chosen k) s) b

  worse : (j k : ℕ) → k ≤ j → j / 2 ^ 8 ≤ for_winner → better (chosen k) j ≡ false
  worse j k h most = elim (cases_Bool (better (chosen k) j)) [
    | inl t ↦ absurd (never-itself k (better-less (chosen k) k j h most t))
    | inr f ↦ f
  ]

  still_left : (s : Score) (j k : ℕ) → k ≤ j → j / 2 ^ 8 ≤ for_winner → better s k ≡ false → better s j ≡ false
  still_left s j k h most f = elim (cases_Bool (better s j)) [
    | inl t ↦ absurd (both_ways (better s k) f (better-less s k j h most t))
    | inr none ↦ none
  ]

  -- of two numbers, only the smaller counts
  pub least-counts : (s : Score) (k j : ℕ) → k / 2 ^ 8 ≤ for_winner → j / 2 ^ 8 ≤ for_winner →
      with_standing for_winner c set (with_standing for_winner c set s k) j ≡ with_standing for_winner c set s (min k j)
  least-counts s k j k_most j_most = elim (cases_lt j k) [
    | inl lt ↦
        let least : min k j ≡ j = omega arith in
        elim (cases_Bool (better s k)) [
          | inl t ↦
              ap (λ x. offer_one x j) (taken s k t) ∙ taken (chosen k) j (better-chosen j k lt k_most)
              ∙ sym (ap (offer_one s) least ∙ taken s j (better-less s j k (omega arith) k_most t))
          | inr f ↦ ap (λ x. offer_one x j) (left s k f) ∙ sym (ap (offer_one s) least)
        ]
    | inr ge ↦
        let least : min k j ≡ k = omega arith in
        elim (cases_Bool (better s k)) [
          | inl t ↦
              ap (λ x. offer_one x j) (taken s k t) ∙ left (chosen k) j (worse j k ge j_most) ∙ sym (ap (offer_one s) least ∙ taken s k t)
          | inr f ↦
              ap (λ x. offer_one x j) (left s k f) ∙ left s j (still_left s j k ge j_most f) ∙ sym (ap (offer_one s) least ∙ left s k f)
        ]
  ]

  -- a number that consists of the loser's votes, as far as they count, and the loser
  pub of-loser : (row : List ℕ) (s : Score) (k l : ℕ) → for_winner ≡ get_or row c 0 → k / 2 ^ 8 ≡ min (get_or row l 0) for_winner → k % 2 ^ 8 ≡ l →
      with_standing for_winner c set s k ≡ offered s (get_or row c 0 - get_or row l 0) (Nen c l set)
  of-loser row s k l winner votes loser =
      let margin : for_winner - k / 2 ^ 8 ≡ get_or row c 0 - get_or row l 0 = omega (arith, winner, votes) in
      ap₂ (λ m x. offered s m (Nen c x set)) margin loser

-- one more loser
pub next-counts : (row others : List ℕ) (c set for_winner i l least next new : ℕ) (s : Score) → i < length others → get_or others i 0 ≡ l →
    for_winner ≡ get_or row c 0 → least / 2 ^ 8 ≤ for_winner → next / 2 ^ 8 ≡ min (get_or row l 0) for_winner → next % 2 ^ 8 ≡ l → new ≡ min least next →
    with_nens row c set (with_standing for_winner c set s new) (drop (i + 1) others)
    ≡ with_nens row c set (with_standing for_winner c set s least) (drop i others)
next-counts row others c set for_winner i l least next new s within at winner most votes loser is =
    let split : drop i others ≡ l ∷ drop (i + 1) others = drop_more others i 0 within ∙ ap (λ x. x ∷ drop (i + 1) others) at in
    let most' : next / 2 ^ 8 ≤ for_winner = omega (arith, votes) in
    let one : with_standing for_winner c set s new
    ≡ offered (with_standing for_winner c set s least) (get_or row c 0 - get_or row l 0) (Nen c l set) =
    ap (with_standing for_winner c set s) is ∙ sym (least-counts c set for_winner s least next most most')
    ∙ of-loser c set for_winner row (with_standing for_winner c set s least) next l winner votes loser in
    ap (λ x. with_nens row c set x (drop (i + 1) others)) one
    ∙ sym (ap (with_nens row c set (with_standing for_winner c set s least)) split)

pub min-bounded : (k j least : ℕ) → k % 2 ^ 8 < ROOM → j % 2 ^ 8 < ROOM → least ≡ min k j → least % 2 ^ 8 < ROOM
min-bounded k j least kh jh is = elim (cases_lt j k) [
  | inl lt ↦ let e : least ≡ j = omega (arith, is) in subst (λ x. x % 2 ^ 8 < ROOM) (sym e) jh
  | inr ge ↦ let e : least ≡ k = omega (arith, is, ge) in subst (λ x. x % 2 ^ 8 < ROOM) (sym e) kh
]
