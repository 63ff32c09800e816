-- The number of sequences of draws that reach a risk within the limit.
use Rattle.std.specs.Prelude.{◌≡◌, ℕ, zero, suc, ◌≤◌, Bool, List, [], ◌∷◌, map, length, All}
use Rattle.std.specs.List.{flat_map, list_any}
use Rattle.km_risk.specs.Factor.{numerator, denominator}
use Rattle.km_risk.specs.Product.{reach as product_reach}

-- each sequence of n draws from the cards, with replacement
abbrev pub sequences : {X : Type 0} → List X → ℕ → List (List X)
sequences cards zero = [] ∷ []
sequences cards (suc n) = flat_map (λ card. map (λ more. card ∷ more) (sequences cards n)) cards

-- n cards are drawn from the cards numbered from 1 to this many
pub record IsSequence (cards n : ℕ) (draws : List ℕ) : Type 0 where
  pub long : length draws ≡ n
  pub some : All (λ card. 1 ≤ card) draws
  pub within : All (λ card. card ≤ cards) draws

-- the first draws of a sequence: none, one, two, and so on up to all of them
abbrev pub prefixes : {X : Type 0} → List X → List (List X)
prefixes [] = [] ∷ []
prefixes (draw ∷ more) = [] ∷ map (λ next. draw ∷ next) (prefixes more)

-- some prefix of the sequence passes a test
abbrev pub some_prefix : {X : Type 0} → (List X → Bool) → List X → Bool
some_prefix test draws = list_any test (prefixes draws)

module _ (cards margin gamma limit : ℕ) where
  -- Of the sequences that begin with what was drawn and continue with n more draws, the number that have an exact risk of at most limit
  -- millionths, now or after some of these draws. The list has the discrepancy of each card.
  abbrev pub reach : List ℕ → List ℕ → ℕ → ℕ
  reach = product_reach (numerator cards margin gamma) (denominator cards margin gamma) limit
