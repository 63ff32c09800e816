-- The exact risk of a list of draws, each given by its discrepancy: the product of their factors, as a fraction.
use Rattle.std.specs.Prelude.{ℕ, ◌^◌, Bool, List, map, length}
use Rattle.km_risk.specs.Factor.{numerator, denominator}
use Rattle.km_risk.specs.Product.{is_within as is_product_within}
pub use Rattle.km_risk.specs.Product.{millionths_in_one, product}

module _ (cards margin gamma : ℕ) where
  abbrev pub exact_numerator : List ℕ → ℕ
  exact_numerator draws = numerator cards margin gamma ^ length draws

  abbrev pub exact_denominator : List ℕ → ℕ
  exact_denominator draws = product (map (denominator cards margin gamma) draws)

  -- the exact risk is at most limit millionths
  abbrev pub is_within : ℕ → List ℕ → Bool
  is_within = is_product_within (numerator cards margin gamma) (denominator cards margin gamma)
