-- The counting law, by induction over the number of draws that are still to come.
use Rattle.std.proofs.Common.{◌≡◌, ℕ, zero, suc, ◌+◌, ◌-◌, ◌*◌, ◌^◌, ◌<◌, ◌≤◌, Bool, true, false, if◌then◌else◌, nat_le, List, [], ◌∷◌, ◌++◌, map, length, sum, sum_by, refl, sym, arith}
use Rattle.std.proofs.Math.Nat.{mul-le-mul_left, mul-le-mul_right, le_of_mul-le-mul_right, pow-suc, pow-zero}
use Rattle.std.proofs.lemmas.Bool.{leb-true}
use Rattle.std.proofs.lemmas.List.Sums.{sum_by-cons}
use Rattle.km_risk.proofs.Factors.{numerator_pos}
use Rattle.km_risk.proofs.Products.{product-push, power-push}
use Rattle.km_risk.specs.Factor.{numerator, denominator}
use Rattle.km_risk.specs.Product.{millionths_in_one, product, is_within, reach}
use Rattle.km_risk.specs.Laws.{ProductCountingLaw, CountingLaw}

-- a bound on each term gives a bound on the sum
sum_within : (f e : ℕ → ℕ) (c k : ℕ) → ((d : ℕ) → f d * c ≤ k * e d) → (ds : List ℕ) → sum_by f ds * c ≤ k * sum_by e ds
sum_within f e c k h [] = omega arith
sum_within f e c k h (d ∷ ds) =
    rw (sum_by-cons f d ds, sum_by-cons e d ds) (let rest = sum_within f e c k h ds in let here = h d in omega arith)

-- a history that is within the limit, or otherwise one whose continuations are bounded
either_way : (w x all rest : ℕ) → rest * millionths_in_one * w ≤ x * all → (b : Bool) → b ≡ nat_le (w * millionths_in_one) x →
    (if b then all else rest) * millionths_in_one * w ≤ x * all
either_way w x all rest h true e =
    let here : w * millionths_in_one ≤ x = leb-true (w * millionths_in_one) x (sym e) in
    let most = mul-le-mul_left all here in omega arith
either_way w x all rest h false e = h

-- the sum over the next cards, from the bound on each
next_step : (s e m w u l n c b : ℕ) → 0 < u → s * (m * (w * u)) ≤ l * n * b * e → e ≤ c * u → s * m * w ≤ l * b * (n * c)
next_step s e m w u l n c b pos h mean =
    let most = mul-le-mul_left (l * n * b) mean in
    let scaled : s * m * w * u ≤ l * b * (n * c) * u = omega arith in
    le_of_mul-le-mul_right scaled pos

module _ (over limit : ℕ) (under : ℕ → ℕ) (values : List ℕ) (pos : 0 < over) (mean : sum_by under values ≤ length values * over) where
  -- a history that isn't within the limit, from the histories with one more draw
  counting_step : (n : ℕ) (h : List ℕ) →
      ((d : ℕ) → reach over under limit values (h ++ d ∷ []) n * millionths_in_one * over ^ length (h ++ d ∷ [])
      ≤ limit * product (map under (h ++ d ∷ [])) * length values ^ n) →
      sum_by (λ d. reach over under limit values (h ++ d ∷ []) n) values * millionths_in_one * over ^ length h
      ≤ limit * product (map under h) * length values ^ suc n
  counting_step n h longer =
      rw (pow-suc (length values) n)
      (next_step _ (sum_by under values) millionths_in_one (over ^ length h) over limit (length values ^ n) (length values)
      (product (map under h)) pos
      (sum_within (λ d. reach over under limit values (h ++ d ∷ []) n) under (millionths_in_one * (over ^ length h * over))
      (limit * length values ^ n * product (map under h))
      (λ d. let next = rw (power-push over h d, product-push under h d) at (longer d) in omega arith) values)
      mean)

  counting_from : (n : ℕ) (h : List ℕ) →
      reach over under limit values h n * millionths_in_one * over ^ length h ≤ limit * product (map under h) * length values ^ n
  counting_from zero h =
      rw (pow-zero (length values))
      (either_way (over ^ length h) (limit * product (map under h)) 1 0 (omega arith) (is_within over under limit h) refl)
  counting_from (suc n) h =
      either_way (over ^ length h) (limit * product (map under h)) (length values ^ suc n)
      (sum_by (λ d. reach over under limit values (h ++ d ∷ []) n) values)
      (counting_step n h (λ d. counting_from n (h ++ d ∷ [])))
      (is_within over under limit h) refl

pub product_counting_law : ProductCountingLaw
product_counting_law over limit under values pos mean n =
    let whole = counting_from over limit under values pos mean n [] in
    let at_one = rw (pow-zero over) at whole in omega arith

-- ---- the factors of discrepancies

-- the sum of a line's values at the numbers of a list
sum_of_line : (a b : ℕ) (ds : List ℕ) → sum_by (λ d. 500 * d * a + b) ds ≡ 500 * sum ds * a + length ds * b
sum_of_line a b [] = omega arith
sum_of_line a b (d ∷ ds) =
    rw (sum_by-cons (λ x. 500 * x * a + b) d ds, sum_by-cons (λ x. x) d ds) (let rest = sum_of_line a b ds in omega arith)

-- the mean of the denominators is at most the numerator
mean_within : (cards margin gamma : ℕ) (ds : List ℕ) → length ds ≡ cards → sum ds ≤ 2 * cards - margin →
    sum_by (denominator cards margin gamma) ds ≤ cards * numerator cards margin gamma
mean_within cards margin gamma ds count small =
    rw (sum_of_line cards (gamma * (2 * cards - margin)) ds, count)
    (let most = mul-le-mul_right cards small in omega arith)

pub counting_law : CountingLaw
counting_law cards margin gamma limit ds some smaller count small n =
    let mean : sum_by (denominator cards margin gamma) ds ≤ length ds * numerator cards margin gamma =
    rw count (mean_within cards margin gamma ds count small) in
    rw count at
    (product_counting_law (numerator cards margin gamma) limit (denominator cards margin gamma) ds (numerator_pos cards margin gamma some smaller) mean n)
