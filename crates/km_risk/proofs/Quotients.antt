-- A product with a factor that was rounded down, instead of a division.
use Rattle.std.proofs.Common.{◌≡◌, ◌∙◌, ℕ, ◌+◌, ◌-◌, ◌*◌, ◌/◌, ◌<◌, ◌≤◌, sym, ap, subst, arith, inl, inr}
use Rattle.std.specs.Prelude.{nat_lt}
use Rattle.std.specs.Int.{from_bool}
use Rattle.std.proofs.Math.Nat.{mul-le-mul_left, mul-le-mul_right, le_of_mul-le-mul_right, div-mul-le_self}
use Rattle.std.proofs.lemmas.Bool.{cases_lt, le-ltb, lt-ltb}
use Rattle.std.proofs.lemmas.Nat.{div-mul-add}
use Rattle.km_risk.specs.Printed.{divided_up}

-- a quotient, rounded down: its product with the divisor is at most one divisor away
quotient-most : (a b : ℕ) → 0 < b → a < (a / b + 1) * b
quotient-most a b some = omega arith

-- f is u / e in units of 1 / m, and q is r times that, both rounded down
module _ (r u e f q m : ℕ) (some : 0 < e) (units : 0 < m) (few : r ≤ m)
    (f-least : f * e ≤ u * m) (f-most : u * m < (f + 1) * e) (q-least : q * m ≤ r * f) (q-most : r * f < (q + 1) * m) where
  -- so q isn't above the quotient of r * u by e
  not_above : q * e ≤ r * u
  not_above =
      let a = mul-le-mul_right e q-least in
      let b = mul-le-mul_left r f-least in
      let c : q * e * m ≤ r * u * m = omega arith in
      le_of_mul-le-mul_right c units

  -- and it is at most one below the quotient
  not_far_below : r * u < q * e + 2 * e
  not_far_below = elim (cases_lt (r * u) (q * e + 2 * e)) [
    | inl below ↦ below
    | inr above ↦
        let f-up : u * m ≤ (f + 1) * e = omega arith in
        let q-up : r * f + 1 ≤ (q + 1) * m = omega arith in
        let a = mul-le-mul_left r f-up in
        let b = mul-le-mul_right e q-up in
        let c = mul-le-mul_right e few in
        let d = mul-le-mul_right m above in
        absurd (omega arith)
  ]

-- the same at quotients
module _ (r u e f q m : ℕ) (some : 0 < e) (units : 0 < m) (few : r ≤ m) (f-is : f ≡ u * m / e) (q-is : q ≡ r * f / m) where
  f-least : f * e ≤ u * m
  f-least = subst (λ x. x * e ≤ u * m) (sym f-is) (div-mul-le_self (u * m) e)

  f-most : u * m < (f + 1) * e
  f-most = subst (λ x. u * m < (x + 1) * e) (sym f-is) (quotient-most (u * m) e some)

  q-least : q * m ≤ r * f
  q-least = subst (λ x. x * m ≤ r * f) (sym q-is) (div-mul-le_self (r * f) m)

  q-most : r * f < (q + 1) * m
  q-most = subst (λ x. r * f < (x + 1) * m) (sym q-is) (quotient-most (r * f) m units)

  pub product-not_above : q * e ≤ r * u
  product-not_above = not_above r u e f q m some units few f-least f-most q-least q-most

  pub product-not_far_below : r * u < q * e + 2 * e
  product-not_far_below = not_far_below r u e f q m some units few f-least f-most q-least q-most

-- what is left then gives the quotient, rounded up
pub quotient-up : (x q e n b : ℕ) → x + e - 1 ≡ n * e + b → b < e → divided_up x e ≡ n
quotient-up x q e n b is below = rw is (div-mul-add n e b below)

-- two looks at the remainder show what is above the quotient
pub corrected : (x q e rest some_left more_left : ℕ) → 0 < e → rest ≡ x - q * e → q * e ≤ x → x < q * e + 2 * e →
    some_left ≡ from_bool (nat_lt 0 rest) → more_left ≡ from_bool (nat_lt e rest) → q + some_left + more_left ≡ divided_up x e
corrected x q e rest some_left more_left some rest-is least most some-is more-is =
    elim (cases_lt 0 rest) [
      | inl left ↦
          let one : some_left ≡ 1 = some-is ∙ ap from_bool (lt-ltb 0 rest left) in
          elim (cases_lt e rest) [
            | inl large ↦
                let two : more_left ≡ 1 = more-is ∙ ap from_bool (lt-ltb e rest large) in
                let n : q + some_left + more_left ≡ q + 2 = omega arith in
                n ∙ sym (quotient-up x q e (q + 2) (rest - e - 1) (omega arith) (omega arith))
            | inr small ↦
                let none : more_left ≡ 0 = more-is ∙ ap from_bool (le-ltb e rest small) in
                let n : q + some_left + more_left ≡ q + 1 = omega arith in
                n ∙ sym (quotient-up x q e (q + 1) (rest - 1) (omega arith) (omega arith))
          ]
      | inr nothing ↦
          let none : some_left ≡ 0 = some-is ∙ ap from_bool (le-ltb 0 rest nothing) in
          let more : more_left ≡ 0 = more-is ∙ ap from_bool (le-ltb e rest (omega arith)) in
          let n : q + some_left + more_left ≡ q = omega arith in
          n ∙ sym (quotient-up x q e q (e - 1) (omega arith) (omega arith))
    ]
