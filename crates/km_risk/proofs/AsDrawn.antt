-- The risk of draws in the order they come. Up to the ceiling it is at least the exact risk and near it, by induction over the draws.
use Rattle.std.proofs.Common.{◌≡◌, ℕ, ◌+◌, ◌*◌, ◌^◌, ◌<◌, ◌≤◌, Bool, true, false, if◌then◌else◌, nat_le, nat_lt, List, [], ◌∷◌, ◌++◌, map, length, take, fold, Option, Some, None, IsTrue, refl, sym, ap, subst, ◌∙◌, arith, length-append, lt-ltb, ltb-true, ltb-false}
use Rattle.std.proofs.Math.Nat.{mul-le-mul, mul-le-mul_right, pow-zero}
use Rattle.std.proofs.lemmas.Bool.{leb-true, leb-false, le-leb}
use Rattle.std.proofs.lemmas.List.{take-append-le, take_all}
use Rattle.std.proofs.lemmas.List.Sums.{fold_push, fold-append}
use Rattle.km_risk.specs.declared.limits.TheConstants.{CEILING, MILLIONTH, ONE}
use Rattle.km_risk.specs.Factor.{numerator, denominator}
use Rattle.km_risk.specs.Exact.{exact_numerator, exact_denominator, is_within, millionths_in_one, product}
use Rattle.km_risk.specs.Bounds.{overstated}
use Rattle.km_risk.specs.Printed.{divided_up}
use Rattle.km_risk.specs.AsDrawn.{first_within, is_within_as_drawn, next_risk, risk_as_drawn}
use Rattle.km_risk.specs.AsDrawnLaws.{AsDrawnLaw, AsDrawnRiskLimitLaw, CeilingLaw, FirstWithinLaw, IsRiskOf, WithinAsDrawnLaw}
use Rattle.km_risk.proofs.CleanDraws.{IsLeastFrom, find_least}
use Rattle.km_risk.proofs.Confirmed.{prefixes_grow}
use Rattle.km_risk.proofs.Counting.{counting_law}
use Rattle.km_risk.proofs.Factors.{denominator_pos, divided_up-least, divided_up-most, high_factor, low_factor}
use Rattle.km_risk.proofs.Products.{power-push, product-push}
use Rattle.km_risk.proofs.RiskBounds.{as_fraction, falls, growing, grows, growth_overstated, rises_high, rises_low}
use Rattle.km_risk.proofs.Sequences.{reach_law}

-- the step, from the numerator and the denominators
abbrev walked : ℕ → (ℕ → ℕ) → ℕ → ℕ → ℕ
walked u e r d = if nat_lt CEILING r then r else divided_up (r * u) (e d)

-- both sides of a risk r: a and b are the exact numerator and denominator, v is b times the factors of the overstated draws, and j is the
-- number of draws
record Sides (r a b v j : ℕ) : Type 0 where
  least : ONE * a ≤ r * b
  under : b ≤ v
  most : r * b ≤ ONE * a + j * v

-- the sides of a risk at draws
abbrev SidesAt : ℕ → (ℕ → ℕ) → List ℕ → ℕ → Type 0
SidesAt u e ds r = Sides r (u ^ length ds) (product (map e ds)) (product (map (growing u e) ds)) (length ds)

-- some first draws have the same risk, with both sides; if it is up to the ceiling, they are all of the draws
record Walk (u : ℕ) (e : ℕ → ℕ) (ds : List ℕ) : Type 0 where
  first : ℕ
  among : first ≤ length ds
  same : fold (walked u e) ONE (take first ds) ≡ fold (walked u e) ONE ds
  sides : SidesAt u e (take first ds) (fold (walked u e) ONE ds)
  all : fold (walked u e) ONE ds ≤ CEILING → first ≡ length ds

module _ (u : ℕ) (e : ℕ → ℕ) (pos : (d : ℕ) → 0 < e d) (low : (d : ℕ) → d ≤ 1 → e d ≤ u) (high : (d : ℕ) → 2 ≤ d → u ≤ e d) where
  sides_by : (r a b v j d : ℕ) → Sides r a b v j → (c : Bool) → nat_le d 1 ≡ c →
      Sides (divided_up (r * u) (e d)) (a * u) (b * e d) (v * (if c then u else e d)) (j + 1)
  sides_by r a b v j d h true is_low =
      let small : e d ≤ u = low d (leb-true d 1 is_low) in
      let least = divided_up-least (r * u) (e d) (pos d) in
      let most = divided_up-most (r * u) (e d) (pos d) in
      record {
        least = falls r u (e d) b a ONE (divided_up (r * u) (e d)) h.least least;
        under = mul-le-mul h.under small;
        most = rises_low r u (e d) b v a ONE j (divided_up (r * u) (e d)) small h.most h.under (omega arith);
      }
  sides_by r a b v j d h false is_high =
      let large : u ≤ e d = high d (leb-false d 1 is_high) in
      let least = divided_up-least (r * u) (e d) (pos d) in
      let most = divided_up-most (r * u) (e d) (pos d) in
      record {
        least = falls r u (e d) b a ONE (divided_up (r * u) (e d)) h.least least;
        under = mul-le-mul_right (e d) h.under;
        most = rises_high r u (e d) b v a ONE j (divided_up (r * u) (e d)) large h.most h.under (omega arith);
      }

  sides_push : (ds : List ℕ) (d r : ℕ) → SidesAt u e ds r → SidesAt u e (ds ++ d ∷ []) (divided_up (r * u) (e d))
  sides_push ds d r h =
      rw (power-push u ds d, product-push e ds d, product-push (growing u e) ds d, length-append ds (d ∷ []))
      (sides_by r _ _ _ _ d h (nat_le d 1) refl)

  one_more : (ds : List ℕ) (d : ℕ) → length (ds ++ d ∷ []) ≡ length ds + 1
  one_more ds d = length-append ds (d ∷ [])

  -- one more draw, when the risk before it is above the ceiling or isn't
  walk_by : (ds : List ℕ) (d : ℕ) → Walk u e ds → (c : Bool) → nat_lt CEILING (fold (walked u e) ONE ds) ≡ c →
      walked u e (fold (walked u e) ONE ds) d ≡ (if c then fold (walked u e) ONE ds else divided_up (fold (walked u e) ONE ds * u) (e d)) →
      Walk u e (ds ++ d ∷ [])
  walk_by ds d h true above step =
      let now : fold (walked u e) ONE (ds ++ d ∷ []) ≡ fold (walked u e) ONE ds = fold_push (walked u e) ONE ds d ∙ step in
      let prefix : take h.first (ds ++ d ∷ []) ≡ take h.first ds = take-append-le h.first ds (d ∷ []) h.among in
      let more = one_more ds d in
      record {
        first = h.first;
        among = omega (arith, h.among, more);
        same = ap (fold (walked u e) ONE) prefix ∙ h.same ∙ sym now;
        sides = rw (prefix, now) h.sides;
        all = λ within. absurd (omega (arith, within, now, ltb-true CEILING (fold (walked u e) ONE ds) above));
      }
  walk_by ds d h false below step =
      let r : ℕ = fold (walked u e) ONE ds in
      let now : fold (walked u e) ONE (ds ++ d ∷ []) ≡ divided_up (r * u) (e d) = fold_push (walked u e) ONE ds d ∙ step in
      let within : r ≤ CEILING = ltb-false CEILING r below in
      let all : take h.first ds ≡ ds = ap (λ k. take k ds) (h.all within) ∙ take_all (length ds) ds (omega arith) in
      let sides : SidesAt u e ds r = subst (λ first. SidesAt u e first r) all h.sides in
      let whole : take (length ds + 1) (ds ++ d ∷ []) ≡ ds ++ d ∷ [] = take_all (length ds + 1) (ds ++ d ∷ []) (omega (arith, one_more ds d)) in
      record {
        first = length ds + 1;
        among = omega (arith, one_more ds d);
        same = ap (fold (walked u e) ONE) whole;
        sides = rw (whole, now) (sides_push ds d r sides);
        all = λ within'. sym (one_more ds d);
      }

  walk_push : (ds : List ℕ) (d : ℕ) → Walk u e ds → Walk u e (ds ++ d ∷ [])
  walk_push ds d h = walk_by ds d h (nat_lt CEILING (fold (walked u e) ONE ds)) refl refl

  walk_none : Walk u e []
  walk_none = record {
    first = 0;
    among = omega arith;
    same = refl;
    sides = rw (pow-zero u) record { least = omega arith; under = omega arith; most = omega arith };
    all = λ within. refl;
  }

  walk_of : (ds : List ℕ) → Walk u e ds
  walk_of ds = grows (Walk u e) walk_push [] ds walk_none

-- both sides, in the form of the law
as_told : (cards margin gamma : ℕ) (ds : List ℕ) (r : ℕ) → SidesAt (numerator cards margin gamma) (denominator cards margin gamma) ds r →
    IsRiskOf cards margin gamma ds r
as_told cards margin gamma ds r h =
    let u = numerator cards margin gamma in
    let e : ℕ → ℕ = denominator cards margin gamma in
    record {
      at_least = h.least;
      near = as_fraction r (product (map e ds)) (ONE * u ^ length ds) (length ds) (product (map (growing u e) ds)) (u ^ length (overstated ds))
          (product (map e (overstated ds))) h.most (growth_overstated u e ds);
    }

module _ (cards margin gamma : ℕ) (some : 1 ≤ cards) (smaller : margin ≤ cards) (lasting : 1 ≤ gamma) where
  walk : (ds : List ℕ) → Walk (numerator cards margin gamma) (denominator cards margin gamma) ds
  walk = walk_of (numerator cards margin gamma) (denominator cards margin gamma) (denominator_pos cards margin gamma some smaller lasting)
      (low_factor cards margin gamma some smaller lasting) (high_factor cards margin gamma some smaller lasting)

pub as_drawn_law : AsDrawnLaw
unfolding risk_as_drawn
as_drawn_law cards margin gamma ds some smaller lasting within =
    let h = walk cards margin gamma some smaller lasting ds in
    let all : take h.first ds ≡ ds = ap (λ k. take k ds) (h.all within) ∙ take_all (length ds) ds (omega arith) in
    subst (λ first. IsRiskOf cards margin gamma first (risk_as_drawn cards margin gamma ds)) all
    (as_told cards margin gamma (take h.first ds) (risk_as_drawn cards margin gamma ds) h.sides)

-- a risk above the ceiling stays
stays_above : (cards margin gamma r : ℕ) → CEILING < r → (ds : List ℕ) → fold (next_risk cards margin gamma) r ds ≡ r
stays_above cards margin gamma r above [] = refl
stays_above cards margin gamma r above (d ∷ ds) = rw (lt-ltb CEILING r above) (stays_above cards margin gamma r above ds)

pub ceiling_law : CeilingLaw
unfolding risk_as_drawn
ceiling_law cards margin gamma ds some smaller lasting above =
    let h = walk cards margin gamma some smaller lasting ds in
    record {
      first = h.first;
      among = h.among;
      same = h.same;
      of_them = as_told cards margin gamma (take h.first ds) (risk_as_drawn cards margin gamma ds) h.sides;
      lasting = λ more. fold-append (next_risk cards margin gamma) ONE ds more ∙ stays_above cards margin gamma (risk_as_drawn cards margin gamma ds) above more;
    }

pub first_within_law : FirstWithinLaw
first_within_law cards margin gamma limit k ds is =
    by (first_within cards margin gamma limit ds) is (find_least (λ k. risk_as_drawn cards margin gamma (take k ds)) (limit * MILLIONTH) 1 (length ds)) where
      by : (found : Option ℕ) → found ≡ Some k →
          IsLeastFrom (λ k. risk_as_drawn cards margin gamma (take k ds)) (limit * MILLIONTH) 1 (length ds) found →
          (1 ≤ k) × (k ≤ length ds) × IsTrue (is_within_as_drawn cards margin gamma limit (take k ds))
          × ((j : ℕ) → 1 ≤ j → j < k → limit * MILLIONTH < risk_as_drawn cards margin gamma (take j ds))
      by None none h = absurd (cc none)
      by (Some r) one h = let same : r ≡ k = cc in
          subst (λ k. (1 ≤ k) × (k ≤ length ds) × IsTrue (is_within_as_drawn cards margin gamma limit (take k ds))
          × ((j : ℕ) → 1 ≤ j → j < k → limit * MILLIONTH < risk_as_drawn cards margin gamma (take j ds))) same
          (h.0, omega (arith, h.1), le-leb _ _ h.2, h.3)

-- the limit at a risk of at least a fraction
within_limit : (a b r limit : ℕ) → ONE * a ≤ r * b → r ≤ limit * MILLIONTH → a * millionths_in_one ≤ limit * b
within_limit a b r limit bound small = let m = mul-le-mul_right b small in omega arith

pub within_as_drawn_law : WithinAsDrawnLaw
within_as_drawn_law cards margin gamma limit ds some smaller lasting part printed =
    let small : risk_as_drawn cards margin gamma ds ≤ limit * MILLIONTH = leb-true _ _ printed in
    let exact = as_drawn_law cards margin gamma ds some smaller lasting (omega (arith, small, part)) in
    le-leb _ _ (within_limit (exact_numerator cards margin gamma ds) (exact_denominator cards margin gamma ds) (risk_as_drawn cards margin gamma ds) limit
    exact.at_least small)

pub as_drawn_risk_limit_law : AsDrawnRiskLimitLaw
as_drawn_risk_limit_law cards margin gamma limit ds some smaller lasting part count few small n =
    let fewer =
    prefixes_grow (λ d. d ≤ 4) (is_within_as_drawn cards margin gamma limit) (is_within cards margin gamma limit)
    (λ draws each printed. within_as_drawn_law cards margin gamma limit draws some smaller lasting part printed) ds few n in
    let reached = rw (reach_law cards margin gamma limit ds count n) at (counting_law cards margin gamma limit ds some smaller count small n) in
    omega arith
