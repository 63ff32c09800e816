-- Clean draws: the search for the smallest number, and how their printed risk falls.
use Rattle.std.proofs.Common.{◌≡◌, ℕ, zero, suc, ◌+◌, ◌-◌, ◌*◌, ◌<◌, ◌≤◌, min, Bool, true, false, cond, Option, Some, None, MatchOption, IfSome, IsSomeAnd, List, [], ◌++◌, find, replicate, nat_le, refl, subst, add-one, ◌∙◌, arith, inl, inr}
use Rattle.std.proofs.Math.Nat.{mul-le-mul_left, mul-le-mul_right}
use Rattle.std.specs.List.{range_with_len}
use Rattle.std.proofs.lemmas.Bool.{lt-leb, leb-true, leb-false, cases_lt}
use Rattle.std.proofs.lemmas.Grind.{replicate_next}
use Rattle.std.proofs.lemmas.List.{append-nil}
use Rattle.std.proofs.lemmas.List.Sums.{fold_push}
use Rattle.km_risk.proofs.Factors.{numerator_pos, denominator_pos, high_factor, divided_up-least, divided_up-most, stays}
use Rattle.irv_base.specs.declared.limits.TheConstants.{MOST_DRAWS}
use Rattle.km_risk.specs.declared.limits.TheConstants.{ONE, MILLIONTH}
use Rattle.km_risk.specs.Factor.{numerator, denominator}
use Rattle.km_risk.specs.Counts.{clean, in_order}
use Rattle.km_risk.specs.Printed.{divided_up, step, printed_risk}
use Rattle.km_risk.specs.Clean.{clean_draws, IsLeast, IsNeverWithinMost}
use Rattle.km_risk.specs.Laws.{LeastLaw, MoreDrawsLaw, LargerMarginLaw, SameDrawsLaw}

pub in_order-clean : (n : ℕ) → in_order (clean n) ≡ replicate n 2
in_order-clean n = let draws : List ℕ = replicate n 2 in append-nil (draws ++ []) ∙ append-nil draws

-- one more clean draw
pub printed_risk-clean : (cards margin gamma n : ℕ) →
    printed_risk cards margin gamma (clean (n + 1)) ≡ step cards margin gamma (printed_risk cards margin gamma (clean n)) 2
unfolding printed_risk
printed_risk-clean cards margin gamma n =
    rw (in_order-clean (n + 1), in_order-clean n, replicate_next {X = ℕ} n 2) (fold_push (step cards margin gamma) ONE (replicate n 2) 2)

-- if the first number isn't within the limit, the search continues after it
pub find_behind : (f : ℕ → ℕ) (limit n m : ℕ) → n < m → limit < f n →
    find (λ k. nat_le (f k) limit) (range_with_len n (m - n)) ≡ find (λ k. nat_le (f k) limit) (range_with_len (n + 1) (m - (n + 1)))
find_behind f limit n m some above =
    let more : m - n ≡ suc (m - (n + 1)) = omega arith in
    rw (more, lt-leb (f n) limit above) refl

-- a search ends at the smallest number within the limit, or none is within it
abbrev pub IsLeastFrom : (ℕ → ℕ) → ℕ → ℕ → ℕ → Option ℕ → Type 0
IsLeastFrom f limit n m found =
    MatchOption found
    ((k : ℕ) → n ≤ k → k < n + m → limit < f k)
    (λ r. (n ≤ r) × (r < n + m) × (f r ≤ limit) × ((k : ℕ) → n ≤ k → k < r → limit < f k))

least_behind : (f : ℕ → ℕ) (limit n m : ℕ) → limit < f n → (found : Option ℕ) → IsLeastFrom f limit (n + 1) m found → IsLeastFrom f limit n (suc m) found
least_behind f limit n m above None none =
    λ k low high. elim (cases_lt n k) [ inl behind ↦ none k (omega arith) (omega arith) | inr here ↦ (let same : k ≡ n = omega arith in rw same above) ]
least_behind f limit n m above (Some r) least = (
  omega arith,
  omega arith,
  least.2,
  λ k low high. elim (cases_lt n k) [ inl behind ↦ least.3 k (omega arith) high | inr here ↦ (let same : k ≡ n = omega arith in rw same above) ],
)

least_step : (f : ℕ → ℕ) (limit n m : ℕ) (rest : Option ℕ) → IsLeastFrom f limit (n + 1) m rest →
    (b : Bool) → nat_le (f n) limit ≡ b → IsLeastFrom f limit n (suc m) (cond b (Some n) rest)
least_step f limit n m rest h true within = (omega arith, omega arith, leb-true (f n) limit within, λ k low high. absurd (omega arith))
least_step f limit n m rest h false above = least_behind f limit n m (leb-false (f n) limit above) rest h

pub find_least : (f : ℕ → ℕ) (limit n m : ℕ) → IsLeastFrom f limit n m (find (λ k. nat_le (f k) limit) (range_with_len n m))
find_least f limit n zero = λ k low high. absurd (omega arith)
find_least f limit n (suc m) = least_step f limit n m _ (find_least f limit (n + 1) m) (nat_le (f n) limit) refl

-- the same from zero up to the number of cards and the maximum number of draws
abbrev IsLeastUpTo : (ℕ → ℕ) → ℕ → ℕ → Option ℕ → Type 0
IsLeastUpTo f limit cards found =
    MatchOption found
    ((n : ℕ) → n ≤ cards → n ≤ MOST_DRAWS → limit < f n)
    (λ n. (n ≤ cards) × (n ≤ MOST_DRAWS) × (f n ≤ limit) × ((k : ℕ) → k < n → limit < f k))

least_up_to : (f : ℕ → ℕ) (limit cards : ℕ) (found : Option ℕ) → IsLeastFrom f limit 0 (min cards MOST_DRAWS + 1) found → IsLeastUpTo f limit cards found
least_up_to f limit cards None none = λ n few fewer. none n (omega arith) (omega arith)
least_up_to f limit cards (Some n) least = (omega (arith, least.1), omega (arith, least.1), least.2, λ k low. least.3 k (omega arith) low)

least_of : (cards margin gamma limit : ℕ) (found : Option ℕ) →
    IsLeastUpTo (λ n. printed_risk cards margin gamma (clean n)) (limit * MILLIONTH) cards found →
    MatchOption found (IsNeverWithinMost cards margin gamma limit) (IsLeast cards margin gamma limit)
least_of cards margin gamma limit None never = never
least_of cards margin gamma limit (Some n) h = record { within_cards = h.0; within_draws = h.1; enough = h.2; least = h.3 }

least_found : (cards margin gamma limit : ℕ) →
    IsLeastUpTo (λ n. printed_risk cards margin gamma (clean n)) (limit * MILLIONTH) cards (clean_draws cards margin gamma limit)
unfolding clean_draws
least_found cards margin gamma limit =
    least_up_to (λ n. printed_risk cards margin gamma (clean n)) (limit * MILLIONTH) cards (clean_draws cards margin gamma limit)
    (find_least (λ n. printed_risk cards margin gamma (clean n)) (limit * MILLIONTH) 0 (min cards MOST_DRAWS + 1))

pub least_law : LeastLaw
least_law cards margin gamma limit =
    least_of cards margin gamma limit (clean_draws cards margin gamma limit) (least_found cards margin gamma limit)

pub more_draws_law : MoreDrawsLaw
more_draws_law cards margin gamma n some smaller lasting =
    rw (printed_risk-clean cards margin gamma n)
    (let pos = denominator_pos cards margin gamma some smaller lasting 2 in
    stays (printed_risk cards margin gamma (clean n)) (numerator cards margin gamma) (denominator cards margin gamma 2) _ pos
    (high_factor cards margin gamma some smaller lasting 2 (omega arith))
    (divided_up-most (printed_risk cards margin gamma (clean n) * numerator cards margin gamma) (denominator cards margin gamma 2) pos))

-- a quotient rounded up grows with its fraction
divided_up_grows : (r s u e v f : ℕ) → 0 < e → 0 < f → 0 < v → r ≤ s → u * f ≤ v * e → divided_up (r * u) e ≤ divided_up (s * v) f
divided_up_grows r s u e v f pos_e pos_f pos_v larger cross =
    let least = divided_up-least (s * v) f pos_f in
    let most = divided_up-most (r * u) e pos_e in
    elim (cases_lt (divided_up (s * v) f) (divided_up (r * u) e)) [
      | inl above ↦ absurd (too_small (divided_up (r * u) e) (divided_up (s * v) f) r s u e v f pos_e pos_v larger cross least most above)
      | inr below ↦ below
    ]
  where
    too_small : (x y r s u e v f : ℕ) → 0 < e → 0 < v → r ≤ s → u * f ≤ v * e → s * v ≤ y * f → x * e ≤ r * u + e - 1 → y < x → ⊥
    too_small x y r s u e v f pos_e pos_v larger cross least most above =
        let m1 = mul-le-mul_right e above in
        let short : y * e + 1 ≤ r * u = omega arith in
        let m2 = mul-le-mul_right v short in
        let m3 = mul-le-mul_right (u * v) larger in
        let m4 = mul-le-mul_right u least in
        let m5 = mul-le-mul_left y cross in
        omega arith

-- the step of a clean draw at two margins, by the diluted totals q and t of the votes
cross_margins : (a g n q t : ℕ) → q ≤ t → a * q * (n + g * t) ≤ a * t * (n + g * q)
cross_margins a g n q t less = let m = mul-le-mul_left (a * n) less in omega arith

-- a larger margin never has a larger risk
module _ (cards margin larger gamma : ℕ) (some : 1 ≤ cards) (less : margin ≤ larger) (smaller : larger ≤ cards) (lasting : 1 ≤ gamma) where
  abbrev FallsAt : ℕ → Type 0
  FallsAt n = printed_risk cards larger gamma (clean n) ≤ printed_risk cards margin gamma (clean n)

  falls_next : (n : ℕ) → FallsAt n → FallsAt (n + 1)
  falls_next n below =
      rw (printed_risk-clean cards larger gamma n, printed_risk-clean cards margin gamma n)
      (divided_up_grows (printed_risk cards larger gamma (clean n)) (printed_risk cards margin gamma (clean n))
      (numerator cards larger gamma) (denominator cards larger gamma 2) (numerator cards margin gamma) (denominator cards margin gamma 2)
      (denominator_pos cards larger gamma some smaller lasting 2) (denominator_pos cards margin gamma some (omega arith) lasting 2)
      (numerator_pos cards margin gamma some (omega arith)) below
      (cross_margins (500 + gamma) gamma (500 * 2 * cards) (2 * cards - larger) (2 * cards - margin) (omega arith)))

  printed_risk_falls : (n : ℕ) → FallsAt n
  unfolding printed_risk
  printed_risk_falls zero = omega arith
  printed_risk_falls (suc n) = subst FallsAt (add-one n) (falls_next n (printed_risk_falls n))

pub same_draws_law : SameDrawsLaw
same_draws_law cards margin larger gamma n some less smaller lasting = printed_risk_falls cards margin larger gamma some less smaller lasting n

-- the smallest number for a lower risk is no larger
lower_least : (f g : ℕ → ℕ) (limit cards : ℕ) → ((n : ℕ) → g n ≤ f n) → (found lower : Option ℕ) →
    IsLeastUpTo f limit cards found → IsLeastUpTo g limit cards lower → IfSome found (λ n. IsSomeAnd lower (λ k. k ≤ n))
lower_least f g limit cards below None lower least least_lower = tt
lower_least f g limit cards below (Some n) None least none =
    let within = below n in
    let above = none n least.0 least.1 in
    absurd (omega (arith, least.2))
lower_least f g limit cards below (Some n) (Some k) least least_lower =
    let within = below n in
    elim (cases_lt n k) [ inl before ↦ (let above = least_lower.3 n before in absurd (omega (arith, least.2))) | inr here ↦ here ]

pub larger_margin_law : LargerMarginLaw
larger_margin_law cards margin larger gamma limit some less smaller lasting =
    lower_least (λ n. printed_risk cards margin gamma (clean n)) (λ n. printed_risk cards larger gamma (clean n)) (limit * MILLIONTH) cards
    (printed_risk_falls cards margin larger gamma some less smaller lasting)
    (clean_draws cards margin gamma limit) (clean_draws cards larger gamma limit)
    (least_found cards margin gamma limit) (least_found cards larger gamma limit)
