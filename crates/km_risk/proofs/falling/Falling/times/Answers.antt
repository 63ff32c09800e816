use Rattle.std.proofs.Common.{◌≡◌, ◌∙◌, ◌^◌, ◌*◌, ◌/◌, ◌+◌, ◌-◌, ◌<◌, ◌≤◌, ℕ, refl, sym, subst, arith}
use Rattle.std.specs.Prelude.{nat_lt}
use Rattle.std.specs.Int.{from_bool}
use Rattle.km_risk.specs.declared.limits.TheConstants.{ONE}
use Rattle.km_risk.specs.Printed.{divided_up}
use Rattle.km_risk.proofs.Factors.{divided_up-most, stays}
use Rattle.km_risk.proofs.Quotients.{corrected, product-not_above, product-not_far_below}
use Rattle.km_risk.proofs.falling.Falling.times.Goals as goal

-- the quotient and the remainder, of numbers as wide as their products need
module _ (risk over under scaled w f u e : ℕ) (few : risk ≤ ONE) (falls : over < under) (rounded : scaled ≡ over * 2 ^ 64 / under)
    (is-w : w ≡ risk) (is-f : f ≡ scaled) (is-u : u ≡ over) (is-e : e ≡ under) where
  quotient-is : w * f / 2 ^ 64 ≡ risk * scaled / 2 ^ 64
  quotient-is = λ i. is-w i * is-f i / 2 ^ 64

  least : risk * scaled / 2 ^ 64 * under ≤ risk * over
  least =
      product-not_above risk over under scaled (risk * scaled / 2 ^ 64) (2 ^ 64) (omega arith) (omega arith) (omega arith) rounded refl

  most : risk * over < risk * scaled / 2 ^ 64 * under + 2 * under
  most =
      product-not_far_below risk over under scaled (risk * scaled / 2 ^ 64) (2 ^ 64) (omega arith) (omega arith) (omega arith) rounded refl

  not_above : w * f / 2 ^ 64 * e ≤ w * u
  not_above = rw (quotient-is, is-w, is-u, is-e) least

  rest-is : w * u - w * f / 2 ^ 64 * e ≡ risk * over - risk * scaled / 2 ^ 64 * under
  rest-is = λ i. is-w i * is-u i - quotient-is i * is-e i

  small : w * u - w * f / 2 ^ 64 * e < 2 * under
  small = omega (arith, rest-is, least, most)

  value : (some more : ℕ) → some ≡ from_bool (nat_lt 0 (w * u - w * f / 2 ^ 64 * e)) → more ≡ from_bool (nat_lt under (w * u - w * f / 2 ^ 64 * e)) →
      w * f / 2 ^ 64 + some + more ≡ divided_up (risk * over) under
  value some more some-is more-is =
      (λ i. quotient-is i + some + more)
      ∙ corrected (risk * over) (risk * scaled / 2 ^ 64) under (w * u - w * f / 2 ^ 64 * e) some more (omega arith) rest-is least most some-is more-is

pub overflow_sub-rest : goal.overflow_sub-rest
overflow_sub-rest c =
    not_above c.args.risk c.args.self.over c.args.self.under c.args.self.scaled _ _ _ _ c.requires c.args.self.below_one c.args.self.rounded
    c.from-wide.ensures c.from.ensures c.from-2.ensures c.from-3.ensures

pub overflow_cast-rest : goal.overflow_cast-rest
overflow_cast-rest c =
    let below = small c.args.risk c.args.self.over c.args.self.under c.args.self.scaled _ _ _ _ c.requires c.args.self.below_one c.args.self.rounded
    c.from-wide.ensures c.from.ensures c.from-2.ensures c.from-3.ensures in
    omega (arith, below, c.args.self.few)

pub returns-clause-value : goal.returns-clause-value
returns-clause-value c =
    value c.args.risk c.args.self.over c.args.self.under c.args.self.scaled _ _ _ _ c.requires c.args.self.below_one c.args.self.rounded
    c.from-wide.ensures c.from.ensures c.from-2.ensures c.from-3.ensures _ _ c.from-4.ensures c.from-5.ensures

pub returns-clause-at_most : goal.returns-clause-at_most
returns-clause-at_most c =
    let over = c.args.self.over in
    let under = c.args.self.under in
    let falls = c.args.self.below_one in
    let some : 0 < under = omega (arith, falls) in
    let below = stays c.args.risk over under (divided_up (c.args.risk * over) under) some (omega (arith, falls))
    (divided_up-most (c.args.risk * over) under some) in
    subst (λ (n : ℕ). n ≤ c.args.risk) (sym (returns-clause-value c)) below
