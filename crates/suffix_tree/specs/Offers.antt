-- What a score becomes through the numbers of a row of tallies.
use Rattle.std.specs.Prelude.{◌≡◌, ℕ, ◌-◌, ◌/◌, ◌%◌, ◌^◌, nat_lt, if◌then◌else◌, List, fold, get_or, Option, Some, None}
use Rattle.assertions.specs.declared.assertion.Assertion.TheVariants.{Nen}
use Rattle.assertions.specs.Scores.{Score, offered}

-- a score without a margin has no assertion
abbrev pub IsSomeByMargin : Score → Type 0
IsSomeByMargin score = score.low ≡ 0 → score.by ≡ None

-- the score after the NENs of c over those after it, from a row of the set
abbrev pub with_nens : List ℕ → ℕ → ℕ → Score → List ℕ → Score
with_nens row c set score behind =
    fold (λ s l. offered s (get_or row c 0 - get_or row l 0) (Nen c l set)) score behind

-- the score after the NEN over one of them, given a number whose last byte is the loser, preceded by the loser's votes
abbrev pub with_standing : ℕ → ℕ → ℕ → Score → ℕ → Score
with_standing for_winner c set score standing = offered score (for_winner - standing / 2 ^ 8) (Nen c (standing % 2 ^ 8) set)

-- the score, if its low is below the limit
abbrev pub below : ℕ → Score → Option Score
below limit score = if nat_lt score.low limit then Some score else None
