-- At larger values a product is no larger, and so is the exact risk at larger discrepancies.
use Rattle.std.proofs.Common.{◌≡◌, ℕ, ◌*◌, ◌^◌, ◌≤◌, List, [], ◌∷◌, map, length, sym, ◌∙◌, ap, arith}
use Rattle.std.proofs.Math.Nat.{mul-le-mul_left, mul-le-mul_right}
use Rattle.std.proofs.lemmas.Nat.{mul-le}
use Rattle.std.proofs.lemmas.Bool.{leb-true, le-leb}
use Rattle.std.proofs.lemmas.List.{length-map}
use Rattle.km_risk.specs.Factor.{numerator, denominator}
use Rattle.km_risk.specs.Product.{millionths_in_one, product}
use Rattle.km_risk.specs.Laws.{LargerValuesLaw, LargerDiscrepanciesLaw}
use Rattle.km_risk.proofs.Products.{product-cons}

product_grows : (under : ℕ → ℕ) → ((a b : ℕ) → a ≤ b → under a ≤ under b) → (f g : ℕ → ℕ) → ((c : ℕ) → f c ≤ g c) → (drawn : List ℕ) →
    product (map under (map f drawn)) ≤ product (map under (map g drawn))
product_grows under grows f g less [] = omega arith
product_grows under grows f g less (c ∷ drawn) =
    rw (product-cons (under (f c)) (map under (map f drawn)), product-cons (under (g c)) (map under (map g drawn)))
    (mul-le (under (f c)) (product (map under (map f drawn))) (under (g c)) (product (map under (map g drawn))) (grows (f c) (g c) (less c))
    (product_grows under grows f g less drawn))

pub larger_values : LargerValuesLaw
larger_values over limit under f g grows less drawn within =
    let more = mul-le-mul_left limit (product_grows under grows f g less drawn) in
    let now = leb-true (over ^ length (map f drawn) * millionths_in_one) (limit * product (map under (map f drawn))) within in
    let same : over ^ length (map f drawn) ≡ over ^ length (map g drawn) =
    ap (λ n. over ^ n) (length-map drawn f ∙ sym (length-map drawn g)) in
    le-leb (over ^ length (map g drawn) * millionths_in_one) (limit * product (map under (map g drawn))) (rw (← same) (omega arith))

denominator_grows : (cards margin gamma d e : ℕ) → d ≤ e → denominator cards margin gamma d ≤ denominator cards margin gamma e
denominator_grows cards margin gamma d e less = let m = mul-le-mul_right cards less in omega arith

pub within_grows : LargerDiscrepanciesLaw
within_grows cards margin gamma limit f g less drawn within =
    larger_values (numerator cards margin gamma) limit (denominator cards margin gamma) f g (denominator_grows cards margin gamma) less drawn within
