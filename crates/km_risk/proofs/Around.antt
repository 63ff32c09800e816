-- Bounds on the exact risk of clean draws, and what they say about the printed risk.
use Rattle.std.proofs.Common.{◌≡◌, ◌∙◌, ℕ, zero, suc, ◌+◌, ◌-◌, ◌*◌, ◌/◌, ◌^◌, ◌<◌, ◌≤◌, min, Bool, true, false, nat_lt, ltb-true, Option, Some, None, MatchOption, List, [], length, map, replicate, nat_le, refl, sym, ap, subst, arith, inl, inr}
use Rattle.std.proofs.Math.Nat.{mul-le-mul_left, mul-le-mul_right, mul-pos, le_of_mul-le-mul_right, le_trans, pow-zero, pow-succ'}
use Rattle.std.proofs.lemmas.Nat.{mul-le, pow-add}
use Rattle.std.specs.Bool.{OnTrue}
use Rattle.std.proofs.lemmas.Bool.{cases_lt, leb-true}
use Rattle.std.proofs.lemmas.List.{length-replicate}
use Rattle.km_risk.specs.declared.limits.TheConstants.{ONE, MILLIONTH}
use Rattle.km_risk.specs.declared.bounds.TheConstants.{SCALE}
use Rattle.km_risk.specs.Around.{IsAround}
use Rattle.km_risk.specs.Bounds.{overstated}
use Rattle.km_risk.specs.Clean.{clean_draws, IsLeast, IsNeverWithinMost}
use Rattle.km_risk.specs.Counts.{clean, in_order}
use Rattle.km_risk.specs.Exact.{exact_numerator, exact_denominator, product}
use Rattle.km_risk.specs.Factor.{numerator, denominator}
use Rattle.km_risk.specs.Printed.{printed_risk}
use Rattle.km_risk.proofs.CleanDraws.{in_order-clean, least_law, more_draws_law}
use Rattle.km_risk.proofs.Factors.{denominator_pos, high_factor, stays}
use Rattle.km_risk.proofs.Products.{product-append-replicate}
use Rattle.km_risk.proofs.RiskBounds.{not_below_law, not_far_above_law}

power_pos : (x n : ℕ) → 0 < x → 0 < x ^ n
power_pos x zero pos = rw (pow-zero x) (omega arith)
power_pos x (suc n) pos = rw (pow-succ' x n) (mul-pos pos (power_pos x n pos))

power_le : (x y n : ℕ) → x ≤ y → x ^ n ≤ y ^ n
power_le x y zero less = rw (pow-zero x, pow-zero y) (omega arith)
power_le x y (suc n) less = rw (pow-succ' x n, pow-succ' y n) (mul-le x (x ^ n) y (y ^ n) less (power_le x y n less))

-- ---- tests

pub on-lt : (a b : ℕ) (P : Type 0) → (a < b → P) → OnTrue (nat_lt a b) P
on-lt a b P h = by (nat_lt a b) refl where
  by : (t : Bool) → nat_lt a b ≡ t → OnTrue t P
  by true e = h (ltb-true a b e)
  by false e = tt

pub on-le : (a b : ℕ) (P : Type 0) → (a ≤ b → P) → OnTrue (nat_le a b) P
on-le a b P h = by (nat_le a b) refl where
  by : (t : Bool) → nat_le a b ≡ t → OnTrue t P
  by true e = h (leb-true a b e)
  by false e = tt

-- ---- products of bounds

joined_lower : (s l l1 l2 e1 e2 u1 u2 : ℕ) → 0 < s → l * s ≤ l1 * l2 → l1 * e1 ≤ s * u1 → l2 * e2 ≤ s * u2 → l * (e1 * e2) ≤ s * (u1 * u2)
joined_lower s l l1 l2 e1 e2 u1 u2 pos rounded first second =
    let both = mul-le (l1 * e1) (l2 * e2) (s * u1) (s * u2) first second in
    let more = mul-le-mul_right (e1 * e2) rounded in
    let scaled : l * (e1 * e2) * s ≤ s * (u1 * u2) * s = omega arith in
    le_of_mul-le-mul_right scaled pos

joined_upper : (s m m1 m2 e1 e2 u1 u2 : ℕ) → 0 < s → m1 * m2 ≤ m * s → s * u1 ≤ m1 * e1 → s * u2 ≤ m2 * e2 → s * (u1 * u2) ≤ m * (e1 * e2)
joined_upper s m m1 m2 e1 e2 u1 u2 pos rounded first second =
    let both = mul-le (s * u1) (s * u2) (m1 * e1) (m2 * e2) first second in
    let more = mul-le-mul_right (e1 * e2) rounded in
    let scaled : s * (u1 * u2) * s ≤ m * (e1 * e2) * s = omega arith in
    le_of_mul-le-mul_right scaled pos

joined_few : (s x x1 x2 : ℕ) → 0 < s → x1 ≤ s → x2 ≤ s → x * s ≤ x1 * x2 + s - 1 → x ≤ s
joined_few s x x1 x2 pos first second rounded =
    let both = mul-le x1 x2 s s first second in
    stays s s s x pos (omega arith) (omega arith)

-- ---- what bounds say about a risk, using the powers of the numerator and the denominator

above_by : (allowed s one least r u e : ℕ) → 0 < s → 0 < e → allowed * s < least * one → least * e ≤ s * u → one * u ≤ r * e → allowed < r
above_by allowed s one least r u e pos_s pos_e above lower printed =
    elim (cases_lt allowed r) [
      | inl h ↦ h
      | inr h ↦
          let m1 = mul-le-mul_right (s * e) h in
          let m2 = mul-le-mul_left s printed in
          let m3 = mul-le-mul_right one lower in
          let m4 = mul-le-mul_right e above in
          absurd (omega arith)
    ]

within_by : (allowed s one most n r u e : ℕ) → 0 < s → 0 < e → most * one + n * s ≤ allowed * s → s * u ≤ most * e → r * e ≤ one * u + n * e → r ≤ allowed
within_by allowed s one most n r u e pos_s pos_e within upper printed =
    elim (cases_lt allowed r) [
      | inl h ↦
          let m1 = mul-le-mul_right (s * e) h in
          let m2 = mul-le-mul_left s printed in
          let m3 = mul-le-mul_right one upper in
          let m4 = mul-le-mul_right e within in
          let pos = mul-pos pos_s pos_e in
          absurd (omega arith)
      | inr h ↦ h
    ]

-- ---- clean draws

none_overstated : (n : ℕ) → overstated (replicate n 2) ≡ []
none_overstated zero = refl
none_overstated (suc n) = none_overstated n

module _ (cards margin gamma : ℕ) (some : 1 ≤ cards) (smaller : margin ≤ cards) (lasting : 1 ≤ gamma) where
  numerator-clean : (n : ℕ) → exact_numerator cards margin gamma (in_order (clean n)) ≡ numerator cards margin gamma ^ n
  numerator-clean n = ap (λ draws. numerator cards margin gamma ^ length draws) (in_order-clean n)
      ∙ ap (λ k. numerator cards margin gamma ^ k) (length-replicate n 2)

  denominator-clean : (n : ℕ) → exact_denominator cards margin gamma (in_order (clean n)) ≡ denominator cards margin gamma 2 ^ n
  denominator-clean n =
      ap (λ draws. product (map (denominator cards margin gamma) draws)) (in_order-clean n)
      ∙ product-append-replicate (denominator cards margin gamma) 2 n []
      ∙ (omega arith)

  factor_le : numerator cards margin gamma ≤ denominator cards margin gamma 2
  factor_le = high_factor cards margin gamma some smaller lasting 2 (omega arith)

  below : (n : ℕ) → ONE * numerator cards margin gamma ^ n ≤ printed_risk cards margin gamma (clean n) * denominator cards margin gamma 2 ^ n
  below n =
      let law = rw (numerator-clean n, denominator-clean n) at (not_below_law cards margin gamma (clean n) some smaller lasting) in
      let less = power_le (numerator cards margin gamma) (denominator cards margin gamma 2) n factor_le in
      let least : min (numerator cards margin gamma ^ n) (denominator cards margin gamma 2 ^ n) ≡ numerator cards margin gamma ^ n = omega arith in
      rw least at law

  far : (n : ℕ) → printed_risk cards margin gamma (clean n) * denominator cards margin gamma 2 ^ n
      ≤ ONE * numerator cards margin gamma ^ n + n * denominator cards margin gamma 2 ^ n
  far n =
      let law = not_far_above_law cards margin gamma (clean n) some smaller lasting in
      by (in_order (clean n)) (exact_numerator cards margin gamma (in_order (clean n))) (exact_denominator cards margin gamma (in_order (clean n)))
      (overstated (in_order (clean n))) (ap overstated (in_order-clean n) ∙ none_overstated n)
      (ap length (in_order-clean n) ∙ length-replicate n 2) (numerator-clean n) (denominator-clean n) law
    where
      by : (draws : List ℕ) (over under : ℕ) (worse : List ℕ) → worse ≡ [] → length draws ≡ n →
          over ≡ numerator cards margin gamma ^ n → under ≡ denominator cards margin gamma 2 ^ n →
          printed_risk cards margin gamma (clean n) * under * exact_denominator cards margin gamma worse
          ≤ ONE * min over under * exact_denominator cards margin gamma worse + length draws * exact_numerator cards margin gamma worse * under →
          printed_risk cards margin gamma (clean n) * denominator cards margin gamma 2 ^ n
          ≤ ONE * numerator cards margin gamma ^ n + n * denominator cards margin gamma 2 ^ n
      by draws over under worse none long o u law =
          let less = power_le (numerator cards margin gamma) (denominator cards margin gamma 2) n factor_le in
          let at-none = rw none at law in
          let one = pow-zero (numerator cards margin gamma) in
          let plain = rw (one, long, o, u) at at-none in
          omega arith

  pub above_law : (n least most limit : ℕ) → IsAround cards margin gamma n least most → limit * MILLIONTH * SCALE < least * ONE →
      limit * MILLIONTH < printed_risk cards margin gamma (clean n)
  above_law n least most limit around above =
      above_by (limit * MILLIONTH) SCALE ONE least (printed_risk cards margin gamma (clean n)) (numerator cards margin gamma ^ n)
      (denominator cards margin gamma 2 ^ n)
      (omega arith) (power_pos (denominator cards margin gamma 2) n (denominator_pos cards margin gamma some smaller lasting 2)) above around.lower (below n)

  pub within_law : (n least most limit : ℕ) → IsAround cards margin gamma n least most → most * ONE + n * SCALE ≤ limit * MILLIONTH * SCALE →
      printed_risk cards margin gamma (clean n) ≤ limit * MILLIONTH
  within_law n least most limit around within =
      within_by (limit * MILLIONTH) SCALE ONE most n (printed_risk cards margin gamma (clean n)) (numerator cards margin gamma ^ n)
      (denominator cards margin gamma 2 ^ n)
      (omega arith) (power_pos (denominator cards margin gamma 2) n (denominator_pos cards margin gamma some smaller lasting 2)) within around.upper (far n)

  -- ---- bounds that are computed
  pub around-none : IsAround cards margin gamma 0 SCALE SCALE
  around-none =
      let u = pow-zero (numerator cards margin gamma) in
      let e = pow-zero (denominator cards margin gamma 2) in
      record { lower = omega (arith, u, e); upper = omega (arith, u, e); least_few = omega arith; most_few = omega arith }

  power-one : (x : ℕ) → x ^ 1 ≡ x
  power-one x = pow-succ' x 0 ∙ rw (pow-zero x) (omega arith)

  pub around-one : (num den : ℕ) → num ≡ numerator cards margin gamma → den ≡ denominator cards margin gamma 2 →
      IsAround cards margin gamma 1 (SCALE * num / den) ((SCALE * num + den - 1) / den)
  around-one num den is_num is_den =
      let pos : 0 < den = rw is_den (denominator_pos cards margin gamma some smaller lasting 2) in
      let less : num ≤ den = rw (is_num, is_den) factor_le in
      let u : numerator cards margin gamma ^ 1 ≡ num = power-one (numerator cards margin gamma) ∙ sym is_num in
      let e : denominator cards margin gamma 2 ^ 1 ≡ den = power-one (denominator cards margin gamma 2) ∙ sym is_den in
      let down : SCALE * num / den * den ≤ SCALE * num = omega arith in
      let up : SCALE * num ≤ (SCALE * num + den - 1) / den * den = omega arith in
      let up_most : (SCALE * num + den - 1) / den * den ≤ SCALE * num + den - 1 = omega arith in
      record {
        lower = rw (u, e) down;
        upper = rw (u, e) up;
        least_few = stays SCALE num den (SCALE * num / den) pos less (omega arith);
        most_few = stays SCALE num den ((SCALE * num + den - 1) / den) pos less up_most;
      }

  pub around-joined : (n k l m l' m' : ℕ) → IsAround cards margin gamma n l m → IsAround cards margin gamma k l' m' →
      IsAround cards margin gamma (n + k) (l * l' / SCALE) ((m * m' + SCALE - 1) / SCALE)
  around-joined n k l m l' m' a b =
      let u = pow-add (numerator cards margin gamma) n k in
      let e = pow-add (denominator cards margin gamma 2) n k in
      let down : l * l' / SCALE * SCALE ≤ l * l' = omega arith in
      let up : m * m' ≤ (m * m' + SCALE - 1) / SCALE * SCALE = omega arith in
      let up_most : (m * m' + SCALE - 1) / SCALE * SCALE ≤ m * m' + SCALE - 1 = omega arith in
      record {
        lower = rw (u, e) (joined_lower SCALE (l * l' / SCALE) l l' _ _ _ _ (omega arith) down a.lower b.lower);
        upper = rw (u, e) (joined_upper SCALE ((m * m' + SCALE - 1) / SCALE) m m' _ _ _ _ (omega arith) up a.upper b.upper);
        least_few = joined_few SCALE (l * l' / SCALE) l l' (omega arith) a.least_few b.least_few (omega arith);
        most_few = joined_few SCALE ((m * m' + SCALE - 1) / SCALE) m m' (omega arith) a.most_few b.most_few up_most;
      }

  -- ---- the risk never rises
  pub falls_to : (n k : ℕ) → k ≤ n → printed_risk cards margin gamma (clean n) ≤ printed_risk cards margin gamma (clean k)
  falls_to zero k few = let same : k ≡ 0 = omega arith in rw same (omega arith)
  falls_to (suc n) k few = elim (cases_lt n k) [
    | inl last ↦ let same : k ≡ suc n = omega arith in rw same (omega arith)
    | inr earlier ↦
        let next : n + 1 ≡ suc n = omega arith in
        let one = subst (λ j. printed_risk cards margin gamma (clean j) ≤ printed_risk cards margin gamma (clean n)) next
        (more_draws_law cards margin gamma n some smaller lasting) in
        le_trans one (falls_to n k earlier)
  ]

pub printed-none : (cards margin gamma : ℕ) → printed_risk cards margin gamma (clean 0) ≡ ONE
unfolding printed_risk
printed-none cards margin gamma = refl

-- ---- what is smallest, or never enough, is the answer
module _ (cards margin gamma limit : ℕ) where
  pub least-is : (n : ℕ) → IsLeast cards margin gamma limit n → clean_draws cards margin gamma limit ≡ Some n
  least-is n least = by (clean_draws cards margin gamma limit) (least_law cards margin gamma limit) where
    by : (o : Option ℕ) → MatchOption o (IsNeverWithinMost cards margin gamma limit) (IsLeast cards margin gamma limit) → o ≡ Some n
    by None never = let above = never n least.within_cards least.within_draws in absurd (omega (arith, least.enough))
    by (Some k) other = elim (cases_lt k n) [
      | inl fewer ↦ let above = least.least k fewer in absurd (omega (arith, other.enough))
      | inr more ↦ elim (cases_lt n k) [
        | inl fewer ↦ let above = other.least n fewer in absurd (omega (arith, least.enough))
        | inr same ↦ let is : k ≡ n = omega arith in ap Some is
      ]
    ]

  pub never-is : IsNeverWithinMost cards margin gamma limit → clean_draws cards margin gamma limit ≡ None
  never-is never = by (clean_draws cards margin gamma limit) (least_law cards margin gamma limit) where
    by : (o : Option ℕ) → MatchOption o (IsNeverWithinMost cards margin gamma limit) (IsLeast cards margin gamma limit) → o ≡ None
    by None h = refl
    by (Some k) least = let above = never k least.within_cards least.within_draws in absurd (omega (arith, least.enough))
