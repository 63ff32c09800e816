-- The records of the worked examples.
use Rattle.std.specs.Prelude.{ℕ, List, [], ◌∷◌, ◌++◌, replicate}

abbrev pub three_candidates : List (List ℕ)
three_candidates = replicate 5 (0 ∷ []) ++ replicate 4 (1 ∷ 2 ∷ []) ++ replicate 3 (2 ∷ 1 ∷ [])

abbrev pub two_candidates : List (List ℕ)
two_candidates = replicate 3 (0 ∷ []) ++ replicate 2 (1 ∷ [])

-- candidates 15, 16, 17, 18 as 0, 1, 2, 3
abbrev pub county : List (List ℕ)
county = replicate 4 (1 ∷ []) ++ replicate 3 (2 ∷ []) ++ (3 ∷ 2 ∷ []) ∷ (3 ∷ []) ∷ (0 ∷ 1 ∷ []) ∷ []
