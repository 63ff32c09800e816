-- The records are a list of rankings. A ranking is a list of distinct candidates, the most preferred first.
use Rattle.std.specs.Prelude.{ℕ, Bool, true, false, not, ◌==◌, if◌then◌else◌, List, [], ◌∷◌, count_by, filter, find, Option, Some, None}
use Rattle.irv_base.specs.Candidates.{has}

-- each candidate only at its first place
abbrev pub firsts : List ℕ → List ℕ
firsts [] = []
firsts (c ∷ cs) = c ∷ filter (λ d. not (d == c)) (firsts cs)

-- the first candidate of the ranking that is in the set
abbrev pub top : List ℕ → ℕ → Option ℕ
top ranking set = find (has set) ranking

abbrev pub is_some_of : Option ℕ → ℕ → Bool
is_some_of None c = false
is_some_of (Some d) c = d == c

-- the number of records that have c as their top in the set
abbrev pub tally : List (List ℕ) → ℕ → ℕ → ℕ
tally records set c = count_by (λ ranking. is_some_of (top ranking set) c) records

abbrev pub is_first : List ℕ → ℕ → Bool
is_first [] w = false
is_first (c ∷ rest) w = c == w

-- the ranking includes l, and w doesn't come before it
abbrev pub is_ahead : List ℕ → ℕ → ℕ → Bool
is_ahead [] l w = false
is_ahead (c ∷ rest) l w = if c == l then true else (if c == w then false else is_ahead rest l w)
