-- The assertions of suffixes, gathered with their margins in a map by assertions.
use Rattle.std.specs.Prelude.{ℕ, List, fold, Option, Some, None}
use Rattle.std.specs.declared.cmp.Ordering.{Ordering}
use Rattle.std.specs.BTreeMap.{insert_entry}
use Rattle.assertions.specs.declared.assertion.Assertion.{Assertion}
use Rattle.assertions.specs.declared.assertion.Claim.{Claim}
use Rattle.assertions.specs.Scores.{Score}

abbrev pub with_margin : (Assertion → Assertion → Ordering) → List (Assertion × ℕ) →
    Option Assertion → ℕ → List (Assertion × ℕ)
with_margin cmp entries None margin = entries
with_margin cmp entries (Some a) margin = insert_entry cmp entries a margin

-- the entries with the assertion of a score put in, if it has one
abbrev pub with_score : (Assertion → Assertion → Ordering) → List (Assertion × ℕ) → Score →
    List (Assertion × ℕ)
with_score cmp entries score = with_margin cmp entries score.by score.low

-- the entries with the refuters of all these suffixes
abbrev pub gathered : (Assertion → Assertion → Ordering) → (List ℕ → Score) → List (Assertion × ℕ) →
    List (List ℕ) → List (Assertion × ℕ)
gathered cmp score entries suffixes =
    fold (λ so_far suffix. with_score cmp so_far (score suffix)) entries suffixes

-- more entries put in
abbrev pub with_all : (Assertion → Assertion → Ordering) → List (Assertion × ℕ) →
    List (Assertion × ℕ) → List (Assertion × ℕ)
with_all cmp entries more =
    fold (λ so_far entry. insert_entry cmp so_far entry.0 entry.1) entries more

abbrev pub claim_at : Assertion × ℕ → Claim
claim_at entry = record { assertion = entry.0; margin = entry.1 }
