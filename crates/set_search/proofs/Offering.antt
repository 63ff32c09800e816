-- How one more candidate compares with the others, in order.
use Rattle.std.proofs.Common.{◌≡◌, ℕ, ◌+◌, ◌-◌, ◌<◌, Bool, true, false, not, ◌==◌, ◌^◌, if◌then◌else◌, get_or, List, ◌∷◌, map, filter, cond, refl, sym, ap, ap₂, arith, ◌∙◌}
use Rattle.std.specs.List.{range_with_len}
use Rattle.irv_base.specs.Candidates.{has}
use Rattle.assertions.specs.declared.assertion.Assertion.{Assertion}
use Rattle.assertions.specs.declared.assertion.Assertion.TheVariants.{Neb, Nen}
use Rattle.assertions.specs.Assertions.{true_margin}
use Rattle.assertions.specs.Scores.{Score, offered, all_offered}
use Rattle.irv_base.proofs.Ranges.{range-step}
use Rattle.set_tallies.specs.Bags.{HasTallies}
use Rattle.assertions.specs.Steps.{more}
use Rattle.set_search.specs.Offers.{offer_of}
use Rattle.set_search.proofs.Mores.{has-more}
use Rattle.std.proofs.lemmas.Bool.{or_left, or_right, eq-eqb}

-- the NEN over one in the set, from the tallies of the set with c
pub nen-offered : (records : List (List ℕ)) (row : List ℕ) (n set c d rest margin : ℕ) (score result : Score) → has set c ≡ false → has set d ≡ true → c < n →
    d < n →
    rest ≡ set + 2 ^ c → HasTallies records n (more set c) row → margin ≡ get_or row c 0 - get_or row d 0 → result ≡ offered score margin (Nen c d rest) →
    result ≡ offered score (true_margin records (offer_of set c d)) (offer_of set c d)
nen-offered records row n set c d rest margin score result out inside below other sum tallied value is =
    let own : has (more set c) c ≡ true = has-more set c c out ∙ or_right (has set c) (c == c) (eq-eqb c c refl) in
    let its : has (more set c) d ≡ true = has-more set c d out ∙ or_left (has set d) (d == c) inside in
    let same : rest ≡ more set c = omega (arith, sum) in
    let votes : margin ≡ true_margin records (Nen c d (more set c)) = value ∙ ap₂ (λ x y. x - y) (tallied c below own) (tallied d other its) in
    is ∙ ap₂ (λ m r. offered score m (Nen c d r)) votes same
    ∙ sym (ap (λ b. offered score (true_margin records (if b then Nen c d (more set c) else Neb d c)) (if b then Nen c d (more set c) else Neb d c)) inside)

-- with those from d on
abbrev pub offers_from : ℕ → ℕ → ℕ → ℕ → List Assertion
offers_from set c d n = map (offer_of set c) (filter (λ e. not (e == c)) (range_with_len d (n - d)))

offers-next : (set c d n : ℕ) → d < n → offers_from set c d n ≡ cond (not (d == c)) (offer_of set c d ∷ offers_from set c (d + 1) n)
    (offers_from set c (d + 1) n)
offers-next set c d n l = ap (λ s. map (offer_of set c) (filter (λ e. not (e == c)) s)) (range-step d n l) ∙ go (not (d == c)) where
  rest : List ℕ
  rest = filter (λ e. not (e == c)) (range_with_len (d + 1) (n - (d + 1)))

  go : (b : Bool) → map (offer_of set c) (cond b (d ∷ rest) rest) ≡ cond b (offer_of set c d ∷ map (offer_of set c) rest) (map (offer_of set c) rest)
  go true = refl
  go false = refl

module _ (records : List (List ℕ)) (set c d n : ℕ) (score : Score) where
  pub offer-taken : d < n → not (d == c) ≡ true →
      all_offered records (offered score (true_margin records (offer_of set c d)) (offer_of set c d)) (offers_from set c (d + 1) n)
      ≡ all_offered records score (offers_from set c d n)
  offer-taken l h =
      ap (all_offered records score) (sym (offers-next set c d n l
      ∙ ap (λ b. cond b (offer_of set c d ∷ offers_from set c (d + 1) n) (offers_from set c (d + 1) n)) h))

  pub offer-left : d < n → not (d == c) ≡ false →
      all_offered records score (offers_from set c (d + 1) n) ≡ all_offered records score (offers_from set c d n)
  offer-left l h =
      ap (all_offered records score) (sym (offers-next set c d n l
      ∙ ap (λ b. cond b (offer_of set c d ∷ offers_from set c (d + 1) n) (offers_from set c (d + 1) n)) h))
