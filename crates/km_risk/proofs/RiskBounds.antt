-- The printed risk is at least the exact risk, and not far above it: inductions over the chain, one more draw at a time.
use Rattle.std.proofs.Common.{◌≡◌, ℕ, zero, suc, ◌+◌, ◌*◌, ◌^◌, ◌≤◌, ◌<◌, min, Bool, true, false, if◌then◌else◌, nat_le, List, [], ◌∷◌, ◌++◌, map, length, fold, replicate, refl, sym, subst, arith, length-append, append_assoc, inl, inr, ◌⊎◌}
use Rattle.std.proofs.Math.Nat.{mul-le-mul_left, mul-le-mul_right, mul-le-mul, le_of_mul-le-mul_right, le_trans, min-le_left, min-le_right, pow-zero, pow-succ'}
use Rattle.std.proofs.lemmas.Bool.{leb-true, leb-false, cases_lt}
use Rattle.std.proofs.lemmas.List.{append-nil}
use Rattle.std.proofs.lemmas.List.Sums.{fold_push}
use Rattle.km_risk.proofs.Factors.{denominator_pos, low_factor, high_factor, divided_up-least, divided_up-most, stays}
use Rattle.km_risk.proofs.Products.{product-cons, product-push, power-push}
use Rattle.km_risk.specs.declared.limits.TheConstants.{ONE}
use Rattle.km_risk.specs.declared.draws.Counts.{Counts}
use Rattle.km_risk.specs.Factor.{numerator, denominator}
use Rattle.km_risk.specs.Exact.{product, exact_numerator, exact_denominator}
use Rattle.km_risk.specs.Counts.{in_order}
use Rattle.km_risk.specs.Printed.{divided_up, printed_risk}
use Rattle.km_risk.specs.Bounds.{overstated}
use Rattle.km_risk.specs.Laws.{AtMostOneLaw, NotBelowLaw, NotFarAboveLaw}

-- what each draw preserves, draws preserve
pub grows : (P : List ℕ → Type 0) → ((ds : List ℕ) (d : ℕ) → P ds → P (ds ++ d ∷ [])) → (ds more : List ℕ) → P ds → P (ds ++ more)
grows P push ds [] h = subst P (sym (append-nil ds)) h
grows P push ds (d ∷ more) h = subst P (append_assoc ds (d ∷ []) more) (grows P push (ds ++ d ∷ []) more (push ds d h))

grows_same : (P : List ℕ → Type 0) (d : ℕ) → ((ds : List ℕ) → P ds → P (ds ++ d ∷ [])) → (n : ℕ) (ds : List ℕ) → P ds → P (ds ++ replicate n d)
grows_same P d push zero ds h = subst P (sym (append-nil ds)) h
grows_same P d push (suc n) ds h = subst P (append_assoc ds (d ∷ []) (replicate n d)) (grows_same P d push n (ds ++ d ∷ []) (push ds h))

-- the upper side after one more draw, by the number s that it leaves
pub rises_low : (r u e b v a o j s : ℕ) → e ≤ u → r * b ≤ o * a + j * v → b ≤ v → s * e ≤ r * u + e → s * (b * e) ≤ o * (a * u) + (j + 1) * (v * u)
rises_low r u e b v a o j s small bound under rounded =
    let m1 = mul-le-mul_right b rounded in
    let m2 = mul-le-mul_right u bound in
    let m3 = mul-le-mul_right e under in
    let m4 = mul-le-mul_left v small in
    omega arith

pub rises_high : (r u e b v a o j s : ℕ) → u ≤ e → r * b ≤ o * a + j * v → b ≤ v → s * e ≤ r * u + e → s * (b * e) ≤ o * (a * u) + (j + 1) * (v * e)
rises_high r u e b v a o j s large bound under rounded =
    let m1 = mul-le-mul_right b rounded in
    let m2 = mul-le-mul_right u bound in
    let m3 = mul-le-mul_right e under in
    let m4 = mul-le-mul_left (j * v) large in
    omega arith

-- a risk, capped at one after an overstated draw
abbrev capped_if : Bool → ℕ → ℕ
capped_if c s = if c then min ONE s else s

-- the step and a draw's factor in the growth, from the numerator and the denominators
abbrev stepped : ℕ → (ℕ → ℕ) → ℕ → ℕ → ℕ
stepped u e r d = capped_if (nat_le d 1) (divided_up (r * u) (e d))

abbrev pub growing : ℕ → (ℕ → ℕ) → ℕ → ℕ
growing u e d = if nat_le d 1 then u else e d

-- the upper side of a risk r: a and b are the exact numerator and denominator, v is b times the factors of the overstated draws, and j is
-- the number of draws
record Upper (r a b v j : ℕ) : Type 0 where
  most : r ≤ ONE
  under : b ≤ v
  bound : r * b ≤ ONE * a + j * v

abbrev UpperAt : ℕ → (ℕ → ℕ) → List ℕ → Type 0
UpperAt u e ds = Upper (fold (stepped u e) ONE ds) (u ^ length ds) (product (map e ds)) (product (map (growing u e) ds)) (length ds)

-- the lower side after one more draw
pub falls : (r u e b a o s : ℕ) → o * a ≤ r * b → r * u ≤ s * e → o * (a * u) ≤ s * (b * e)
falls r u e b a o s bound rounded =
    let m1 = mul-le-mul_right u bound in
    let m2 = mul-le-mul_right b rounded in
    omega arith

-- the lower side of a risk that was never capped
abbrev AboveAt : ℕ → (ℕ → ℕ) → List ℕ → Type 0
AboveAt u e ds = ONE * u ^ length ds ≤ fold (stepped u e) ONE ds * product (map e ds)

-- the lower side: the exact risk, or one
abbrev LowerAt : ℕ → (ℕ → ℕ) → List ℕ → Type 0
LowerAt u e ds = AboveAt u e ds ⊎ (ONE ≤ fold (stepped u e) ONE ds)

module _ (u : ℕ) (e : ℕ → ℕ) (pos : (d : ℕ) → 0 < e d) (low : (d : ℕ) → d ≤ 1 → e d ≤ u) (high : (d : ℕ) → 2 ≤ d → u ≤ e d) where
  upper_step : (r a b v j d : ℕ) → Upper r a b v j → (c : Bool) → nat_le d 1 ≡ c →
      Upper (capped_if c (divided_up (r * u) (e d))) (a * u) (b * e d) (v * (if c then u else e d)) (j + 1)
  upper_step r a b v j d h true is_low =
      let small : e d ≤ u = low d (leb-true d 1 is_low) in
      let rounded = divided_up-most (r * u) (e d) (pos d) in
      let capped = mul-le-mul_right (e d) (min-le_right ONE (divided_up (r * u) (e d))) in
      record {
        most = min-le_left ONE (divided_up (r * u) (e d));
        under = mul-le-mul h.under small;
        bound = rises_low r u (e d) b v a ONE j (min ONE (divided_up (r * u) (e d))) small h.bound h.under (omega arith);
      }
  upper_step r a b v j d h false is_high =
      let large : u ≤ e d = high d (leb-false d 1 is_high) in
      let rounded = divided_up-most (r * u) (e d) (pos d) in
      let below = stays r u (e d) (divided_up (r * u) (e d)) (pos d) large rounded in
      record {
        most = omega (arith, h.most);
        under = mul-le-mul_right (e d) h.under;
        bound = rises_high r u (e d) b v a ONE j (divided_up (r * u) (e d)) large h.bound h.under (omega arith);
      }

  upper_push : (ds : List ℕ) (d : ℕ) → UpperAt u e ds → UpperAt u e (ds ++ d ∷ [])
  upper_push ds d h =
      rw (fold_push (stepped u e) ONE ds d, power-push u ds d, product-push e ds d, product-push (growing u e) ds d, length-append ds (d ∷ []))
      (upper_step _ _ _ _ _ d h (nat_le d 1) refl)

  upper_of : (ds : List ℕ) → UpperAt u e ds
  upper_of ds = grows (UpperAt u e) upper_push [] ds (rw (pow-zero u) record { most = omega arith; under = omega arith; bound = omega arith })

  high_step : (r a b d : ℕ) → 2 ≤ d → ONE * a ≤ r * b → (c : Bool) → nat_le d 1 ≡ c →
      ONE * (a * u) ≤ capped_if c (divided_up (r * u) (e d)) * (b * e d)
  high_step r a b d large h true is_low = let small = leb-true d 1 is_low in absurd (omega arith)
  high_step r a b d large h false is_high = falls r u (e d) b a ONE (divided_up (r * u) (e d)) h (divided_up-least (r * u) (e d) (pos d))

  high_push : (d : ℕ) → 2 ≤ d → (ds : List ℕ) → AboveAt u e ds → AboveAt u e (ds ++ d ∷ [])
  high_push d large ds h =
      rw (fold_push (stepped u e) ONE ds d, power-push u ds d, product-push e ds d) (high_step _ _ _ d large h (nat_le d 1) refl)

  low_step : (r a b d : ℕ) → d ≤ 1 → (ONE * a ≤ r * b) ⊎ (ONE ≤ r) → (c : Bool) → nat_le d 1 ≡ c →
      (ONE * (a * u) ≤ capped_if c (divided_up (r * u) (e d)) * (b * e d))
      ⊎ (ONE ≤ capped_if c (divided_up (r * u) (e d)))
  low_step r a b d small h true is_low =
      let least = divided_up-least (r * u) (e d) (pos d) in
      elim h [
        | inl above ↦ elim (cases_lt (divided_up (r * u) (e d)) ONE) [
          | inl below ↦ let uncapped : min ONE (divided_up (r * u) (e d)) ≡ divided_up (r * u) (e d) = omega arith in
              inl (rw uncapped (falls r u (e d) b a ONE (divided_up (r * u) (e d)) above least))
          | inr reached ↦ inr (omega arith)
        ]
        | inr capped ↦
            let m = mul-le-mul capped (low d small) in
            let reached : ONE ≤ divided_up (r * u) (e d) = le_of_mul-le-mul_right (le_trans m least) (pos d) in
            inr (omega arith)
      ]
  low_step r a b d small h false is_high = let large = leb-false d 1 is_high in absurd (omega arith)

  low_push : (d : ℕ) → d ≤ 1 → (ds : List ℕ) → LowerAt u e ds → LowerAt u e (ds ++ d ∷ [])
  low_push d small ds h =
      rw (fold_push (stepped u e) ONE ds d, power-push u ds d, product-push e ds d) (low_step _ _ _ d small h (nat_le d 1) refl)

  lower_of : (c : Counts) → LowerAt u e (in_order c)
  lower_of c =
      let start : AboveAt u e [] = rw (pow-zero u) (omega arith) in
      let after4 = grows_same (AboveAt u e) 4 (high_push 4 (omega arith)) c.n4 [] start in
      let after3 = grows_same (AboveAt u e) 3 (high_push 3 (omega arith)) c.n3 _ after4 in
      let after2 = grows_same (AboveAt u e) 2 (high_push 2 (omega arith)) c.n2 _ after3 in
      let after1 = grows_same (LowerAt u e) 1 (low_push 1 (omega arith)) c.n1 _ (inl after2) in
      grows_same (LowerAt u e) 0 (low_push 0 (omega arith)) c.n0 _ after1

-- the growth, over only the overstated draws: a and b are their numerator and denominator
growth_step : (u x v a b all : ℕ) → v * b ≡ a * all → (c : Bool) →
    (if c then u else x) * v * (if c then x * b else b) ≡ (if c then u * a else a) * (x * all)
growth_step u x v a b all h true = let m : v * b * (u * x) ≡ a * all * (u * x) = rw h refl in omega arith
growth_step u x v a b all h false = let m : v * b * x ≡ a * all * x = rw h refl in omega arith

power_if : (u : ℕ) (d : ℕ) (ds : List ℕ) (c : Bool) → u ^ length (if c then d ∷ ds else ds) ≡ (if c then u * u ^ length ds else u ^ length ds)
power_if u d ds true = pow-succ' u (length ds)
power_if u d ds false = refl

product_if : (e : ℕ → ℕ) (d : ℕ) (ds : List ℕ) (c : Bool) →
    product (map e (if c then d ∷ ds else ds)) ≡ (if c then e d * product (map e ds) else product (map e ds))
product_if e d ds true = product-cons (e d) (map e ds)
product_if e d ds false = refl

pub growth_overstated : (u : ℕ) (e : ℕ → ℕ) (ds : List ℕ) →
    product (map (growing u e) ds) * product (map e (overstated ds)) ≡ u ^ length (overstated ds) * product (map e ds)
growth_overstated u e [] = rw (pow-zero u) refl
growth_overstated u e (d ∷ ds) =
    rw (
      product-cons (growing u e d) (map (growing u e) ds),
      product-cons (e d) (map e ds),
      power_if u d (overstated ds) (nat_le d 1),
      product_if e d (overstated ds) (nat_le d 1),
    )
    (growth_step u (e d) (product (map (growing u e) ds)) (u ^ length (overstated ds)) (product (map e (overstated ds))) (product (map e ds))
    (growth_overstated u e ds) (nat_le d 1))

-- the sides with the smaller of the exact risk and one
least_side : (r a b : ℕ) → (ONE * a ≤ r * b) ⊎ (ONE ≤ r) → ONE * min a b ≤ r * b
least_side r a b h = elim h [ inl above ↦ omega arith | inr capped ↦ (let m = mul-le-mul_right b capped in omega arith) ]

most_side : (r a b v j : ℕ) → Upper r a b v j → r * b ≤ ONE * min a b + j * v
most_side r a b v j h = let m = mul-le-mul_right b h.most in omega arith

-- the growth as a fraction f / g
pub as_fraction : (r b one_min j v f g : ℕ) → r * b ≤ one_min + j * v → v * g ≡ f * b → r * b * g ≤ one_min * g + j * f * b
as_fraction r b one_min j v f g h same =
    let m = mul-le-mul_right g h in
    let grown : j * (v * g) ≡ j * (f * b) = rw same refl in
    omega arith

pub at_most_one_law : AtMostOneLaw
unfolding printed_risk
at_most_one_law cards margin gamma c some smaller lasting =
    let upper = upper_of (numerator cards margin gamma) (denominator cards margin gamma) (denominator_pos cards margin gamma some smaller lasting)
    (low_factor cards margin gamma some smaller lasting) (high_factor cards margin gamma some smaller lasting) (in_order c) in
    upper.most

pub not_below_law : NotBelowLaw
unfolding printed_risk
not_below_law cards margin gamma c some smaller lasting =
    least_side (printed_risk cards margin gamma c) (exact_numerator cards margin gamma (in_order c)) (exact_denominator cards margin gamma (in_order c))
    (lower_of (numerator cards margin gamma) (denominator cards margin gamma) (denominator_pos cards margin gamma some smaller lasting)
    (low_factor cards margin gamma some smaller lasting) (high_factor cards margin gamma some smaller lasting) c)

pub not_far_above_law : NotFarAboveLaw
unfolding printed_risk
not_far_above_law cards margin gamma c some smaller lasting =
    let draws = in_order c in
    let u = numerator cards margin gamma in
    let e : ℕ → ℕ = denominator cards margin gamma in
    as_fraction (printed_risk cards margin gamma c) (product (map e draws)) (ONE * min (u ^ length draws) (product (map e draws)))
    (length draws) (product (map (growing u e) draws)) (u ^ length (overstated draws)) (product (map e (overstated draws)))
    (most_side (printed_risk cards margin gamma c) (u ^ length draws) (product (map e draws)) (product (map (growing u e) draws)) (length draws)
    (upper_of u e (denominator_pos cards margin gamma some smaller lasting)
    (low_factor cards margin gamma some smaller lasting) (high_factor cards margin gamma some smaller lasting) draws))
    (growth_overstated u e draws)
