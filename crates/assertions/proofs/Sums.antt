-- The sum of the assorter values, and the margin of a true assertion.
use Rattle.std.proofs.Common.{Bool, List, None, Option, Some, [], arith, cond, count_by, eqb-true, false, if◌then◌else◌, length, lt-ltb, ltb-true, nat_lt, ne_eqb, pos, refl, sum_by, sym, true, true≢false, ℕ, ◌+◌, ◌-ℤ◌, ◌-◌, ◌<ℤ◌, ◌<◌, ◌≤◌, ◌↔◌, ◌∙◌, ◌∷◌, ◌≡◌}
use Rattle.std.proofs.lemmas.Int.{ints}
use Rattle.std.proofs.lemmas.List.Sums.{sum_by-cons}
use Rattle.irv_base.specs.Records.{is_ahead, is_first, is_some_of, top}
use Rattle.assertions.specs.Assertions.{is_proper, is_true, margin, true_margin, votes_against, votes_for}
use Rattle.assertions.specs.Assorter.{assorter_value}
use Rattle.assertions.specs.declared.assertion.Assertion.{Assertion}
use Rattle.assertions.specs.declared.assertion.Assertion.TheVariants.{Neb, Nen}
use Rattle.assertions.proofs.Proper.{nen_facts, pair_facts}

-- each record is worth 1, and one more or one less if it counts
summed : (p q : List ℕ → Bool) → ((r : List ℕ) → p r ≡ true → q r ≡ false) → (records : List (List ℕ)) →
    sum_by (λ r. if p r then 2 else (if q r then 0 else 1)) records + count_by q records ≡ length records + count_by p records
summed p q apart [] = refl
summed p q apart (r ∷ records) =
    let rest = summed p q apart records in
    let one : (if p r then 2 else (if q r then 0 else 1)) + cond (q r) 1 0 ≡ 1 + cond (p r) 1 0 = each (p r) (q r) (apart r) in
    omega (
      arith,
      one,
      rest,
      sum_by-cons (λ r. if p r then 2 else (if q r then 0 else 1)) r records,
      sum_by-cons (λ r. cond (q r) 1 0) r records,
      sum_by-cons (λ r. cond (p r) 1 0) r records,
    )
  where
    each : (a b : Bool) → (a ≡ true → b ≡ false) → (if a then 2 else (if b then 0 else 1)) + cond b 1 0 ≡ 1 + cond a 1 0
    each true true h = absurd (true≢false (h refl))
    each true false h = refl
    each false true h = refl
    each false false h = refl

first-not_ahead : (w l : ℕ) → (w ≡ l → ⊥) → (r : List ℕ) → is_first r w ≡ true → is_ahead r l w ≡ false
first-not_ahead w l ne [] h = refl
first-not_ahead w l ne (c ∷ rest) h =
    let e : c ≡ w = eqb-true c w h in
    rw (ne_eqb c l (λ s. ne (sym e ∙ s)), h) refl

top-one : (w l set : ℕ) → (w ≡ l → ⊥) → (r : List ℕ) → is_some_of (top r set) w ≡ true → is_some_of (top r set) l ≡ false
top-one w l set ne r h = go (top r set) h where
  go : (o : Option ℕ) → is_some_of o w ≡ true → is_some_of o l ≡ false
  go None h = refl
  go (Some c) h = ne_eqb c l (λ s. ne (sym (eqb-true c w h) ∙ s))

pub assorter-sum : (n : ℕ) (records : List (List ℕ)) (a : Assertion) → is_proper n a ≡ true →
    sum_by (assorter_value a) records + votes_against records a ≡ length records + votes_for records a
assorter-sum n records (Neb w l) proper = summed (λ r. is_first r w) (λ r. is_ahead r l w) (first-not_ahead w l (pair_facts n w l proper).differ) records
assorter-sum n records (Nen w l rest) proper =
    summed (λ r. is_some_of (top r rest) w) (λ r. is_some_of (top r rest) l) (top-one w l rest (nen_facts n w l rest proper).pair.differ) records

difference : (s n f a : ℕ) → s + a ≡ n + f → pos s -ℤ pos n ≡ pos f -ℤ pos a
difference s n f a e = omega (arith, ints)

pub assorter_sums : (n : ℕ) (records : List (List ℕ)) (a : Assertion) → is_proper n a ≡ true →
    pos (sum_by (assorter_value a) records) -ℤ pos (length records) ≡ margin records a
assorter_sums n records a proper = difference (sum_by (assorter_value a) records) (length records) (votes_for records a) (votes_against records a)
    (assorter-sum n records a proper)

-- ---- each is 0, 1 or 2
pub assorter-is : (a : Assertion) (ranking : List ℕ) → assorter_value a ranking ≤ 2
assorter-is a ranking = go a where
  few : (p q : Bool) → (if p then 2 else (if q then 0 else 1)) ≤ 2
  few true q = omega arith
  few false true = omega arith
  few false false = omega arith

  go : (a : Assertion) → assorter_value a ranking ≤ 2
  go (Neb w l) = few (is_first ranking w) (is_ahead ranking l w)
  go (Nen w l rest) = few (is_some_of (top ranking rest) w) (is_some_of (top ranking rest) l)

-- ---- the margin of a true assertion
pub true_margin_is : (records : List (List ℕ)) (a : Assertion) →
    ((is_true records a ≡ true) ↔ (pos 0 <ℤ margin records a)) × (is_true records a ≡ true → margin records a ≡ pos (true_margin records a))
true_margin_is records a = go (votes_for records a) (votes_against records a) where
  go : (f g : ℕ) → ((nat_lt g f ≡ true) ↔ (pos 0 <ℤ (pos f -ℤ pos g))) × (nat_lt g f ≡ true → pos f -ℤ pos g ≡ pos (f - g))
  go f g = (
    (λ h. let lt : g < f = ltb-true g f h in omega (arith, ints), λ h. let lt : g < f = omega (arith, ints) in lt-ltb g f lt),
    λ h. let lt : g < f = ltb-true g f h in omega (arith, ints),
  )
