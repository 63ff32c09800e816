-- How hard it is to refute an elimination order: the greatest margin of a true assertion that refutes it.
use Rattle.std.specs.Prelude.{◌≡◌, ◌⊎◌, ℕ, max, ◌&&◌, ◌==◌, List, ◌∷◌, map, filter, find, fold, reverse, Option, IsTrue}
use Rattle.irv_base.specs.Tabulation.{least}
use Rattle.assertions.specs.declared.assertion.Assertion.{Assertion}
use Rattle.assertions.specs.FixedOrder.{is_before}
use Rattle.assertions.specs.Assertions.{assertions, is_proper, is_true, true_margin}
use Rattle.assertions.specs.Suffixes.{alternative_orders}
use Rattle.assertions.specs.Refutation.{refutes}

abbrev pub greatest : List ℕ → ℕ
greatest xs = fold max 0 xs

-- the true assertions that refute a suffix, in the fixed order
abbrev pub true_refuters : ℕ → List (List ℕ) → List ℕ → List Assertion
true_refuters n records suffix = filter (λ a. refutes a suffix && is_true records a) (assertions n)

-- the greatest margin of a true assertion that refutes a suffix, or 0 if there is none; for a whole order, this is its hardness
abbrev pub low : ℕ → List (List ℕ) → List ℕ → ℕ
low n records suffix = greatest (map (true_margin records) (true_refuters n records suffix))

-- the first of the true assertions that refute a suffix with its low as their margin
abbrev pub refuter : ℕ → List (List ℕ) → List ℕ → Option Assertion
refuter n records suffix =
    find (λ a. true_margin records a == low n records suffix) (true_refuters n records suffix)

-- what the refuter of a suffix is: a true assertion of that margin that refutes the suffix, and comes before any other such
-- assertion in the fixed order
pub record IsRefuter (n : ℕ) (records : List (List ℕ)) (suffix : List ℕ) (a : Assertion)
    : Type 0 where
  pub proper : IsTrue (is_proper n a)
  pub holds : IsTrue (is_true records a)
  pub refuting : IsTrue (refutes a suffix)
  pub reached : true_margin records a ≡ low n records suffix
  pub first : (b : Assertion) → IsTrue (is_proper n b) → IsTrue (refutes b suffix) →
      true_margin records b ≡ low n records suffix → (b ≡ a) ⊎ IsTrue (is_before a b)

-- the smallest hardness of an order that elects another candidate
abbrev pub best_margin : ℕ → ℕ → (List ℕ → ℕ) → ℕ
best_margin n winner hardness = least (map hardness (alternative_orders n winner))

abbrev pub with_first_two_exchanged : List ℕ → List ℕ
with_first_two_exchanged (a ∷ b ∷ rest) = b ∷ a ∷ rest
with_first_two_exchanged short = short

-- the start of the search: the tabulated order with its last two candidates exchanged
abbrev pub start_order : List ℕ → List ℕ
start_order order = reverse (with_first_two_exchanged (reverse order))

-- the hardness of the start order
abbrev pub first_bound : ℕ → List (List ℕ) → List ℕ → ℕ
first_bound n records order = low n records (start_order order)
