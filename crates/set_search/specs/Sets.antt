-- The number of sets of candidates that a search by sets needs.
use Rattle.std.specs.Prelude.{ℕ, max, nat_lt, nat_le, List, length}
use Rattle.assertions.specs.Hardness.{low, best_margin}
use Rattle.assertions.specs.Steps.{step}
use Rattle.set_walk.specs.Walks.{standing, counted}

abbrev pub best_of : ℕ → List (List ℕ) → ℕ → ℕ
best_of n records winner = best_margin n winner (low n records)

-- the number of sets needed for the assertions: those of suffixes below the best margin that elect another candidate and aren't whole
abbrev pub cover_sets : ℕ → List (List ℕ) → ℕ → ℕ
cover_sets n records winner =
    length (standing n winner (λ set c. nat_lt (step n records set c) (best_of n records winner)))

-- the number of sets needed for the order: those of such suffixes at or below the best margin that come before the certificate's order,
-- both read backwards
abbrev pub order_sets : ℕ → List (List ℕ) → ℕ → ℕ
order_sets n records winner =
    length (counted n winner (λ set c. nat_le (step n records set c) (best_of n records winner)))

abbrev pub sets_for : ℕ → List (List ℕ) → ℕ → ℕ
sets_for n records winner = max (cover_sets n records winner) (order_sets n records winner)
