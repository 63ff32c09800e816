-- What the factors of draws are, and that a step by a factor of at most one doesn't rise.
use Rattle.std.proofs.Common.{◌≡◌, ℕ, ◌+◌, ◌-◌, ◌*◌, ◌/◌, ◌<◌, ◌≤◌, min, Bool, true, false, if◌then◌else◌, nat_le, refl, sym, ap, arith, inl, inr}
use Rattle.std.proofs.Math.Nat.{mul-le-mul_left, mul-le-mul_right, mul-pos, le_trans}
use Rattle.std.proofs.lemmas.Bool.{leb-false, lt-leb, cases_lt}
use Rattle.km_risk.specs.declared.limits.TheConstants.{ONE}
use Rattle.km_risk.specs.Factor.{numerator, denominator}
use Rattle.km_risk.specs.Printed.{divided_up, step}

pub numerator_pos : (cards margin gamma : ℕ) → 1 ≤ cards → margin ≤ cards → 0 < numerator cards margin gamma
numerator_pos cards margin gamma some smaller = mul-pos (omega arith) (omega arith)

module _ (cards margin gamma : ℕ) (some : 1 ≤ cards) (smaller : margin ≤ cards) (lasting : 1 ≤ gamma) where
  pub denominator_pos : (d : ℕ) → 0 < denominator cards margin gamma d
  denominator_pos d =
      let rest : 0 < 2 * cards - margin = omega arith in
      let m = mul-pos lasting rest in
      omega arith

  -- a draw with d of 0 or 1 has a factor of at least one
  pub low_factor : (d : ℕ) → d ≤ 1 → denominator cards margin gamma d ≤ numerator cards margin gamma
  low_factor d h = let m = mul-le-mul_right cards h in omega arith

  -- every other draw has a factor of at most one
  pub high_factor : (d : ℕ) → 2 ≤ d → numerator cards margin gamma ≤ denominator cards margin gamma d
  high_factor d h = let m = mul-le-mul_right cards h in omega arith

pub divided_up-least : (a b : ℕ) → 0 < b → a ≤ divided_up a b * b
divided_up-least a b pos = omega arith

pub divided_up-most : (a b : ℕ) → 0 < b → divided_up a b * b ≤ a + b - 1
divided_up-most a b pos = omega arith

-- a risk doesn't rise by a factor of at most one, rounding up
pub stays : (r u e s : ℕ) → 0 < e → u ≤ e → s * e ≤ r * u + e - 1 → s ≤ r
stays r u e s pos large rounded =
    let m = mul-le-mul_left r large in
    elim (cases_lt r s) [ inl above ↦ (let m2 = mul-le-mul_right e above in absurd (omega arith)) | inr below ↦ below ]

capped : (s d : ℕ) → (2 ≤ d → s ≤ ONE) → (b : Bool) → nat_le d 1 ≡ b → (if b then min ONE s else s) ≡ min s ONE
capped s d within true low = omega arith
capped s d within false high = let most = within (leb-false d 1 high) in omega arith

-- each step could be capped at one
pub step-capped : (cards margin gamma r d : ℕ) → 1 ≤ cards → margin ≤ cards → 1 ≤ gamma → r ≤ ONE →
    step cards margin gamma r d ≡ min (divided_up (r * numerator cards margin gamma) (denominator cards margin gamma d)) ONE
step-capped cards margin gamma r d some smaller lasting most =
    let pos = denominator_pos cards margin gamma some smaller lasting d in
    capped (divided_up (r * numerator cards margin gamma) (denominator cards margin gamma d)) d
    (λ large. le_trans (stays r (numerator cards margin gamma) (denominator cards margin gamma d) _ pos
    (high_factor cards margin gamma some smaller lasting d large)
    (divided_up-most (r * numerator cards margin gamma) (denominator cards margin gamma d) pos)) most)
    (nat_le d 1) refl

-- the step, at numbers that a program computed
pub step-computed : (cards margin gamma r d now num den one : ℕ) → 1 ≤ cards → margin ≤ cards → 1 ≤ gamma → r ≤ ONE →
    now ≡ r → num ≡ numerator cards margin gamma → den ≡ denominator cards margin gamma d → one ≡ ONE →
    min ((now * num + den - 1) / den) one ≡ step cards margin gamma r d
step-computed cards margin gamma r d now num den one some smaller lasting most is_now is_num is_den is_one =
    rw (is_now, is_num, is_den, is_one) (sym (step-capped cards margin gamma r d some smaller lasting most))

-- the step of a draw with a factor below one
pub step-falling : (cards margin gamma r d : ℕ) → 2 ≤ d →
    step cards margin gamma r d ≡ divided_up (r * numerator cards margin gamma) (denominator cards margin gamma d)
step-falling cards margin gamma r d clean =
    let scaled = divided_up (r * numerator cards margin gamma) (denominator cards margin gamma d) in
    ap (λ (b : Bool). if b then min ONE scaled else scaled) (lt-leb d 1 clean)
