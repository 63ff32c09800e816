-- Which of two lists of numbers comes first.
use Rattle.std.specs.Prelude.{ℕ, Bool, true, false, ◌&&◌, ◌||◌, ◌==◌, nat_lt, List, [], ◌∷◌}

-- two lists are compared at the first place where they differ, and a list comes after its proper prefixes
abbrev pub stands_before : List ℕ → List ℕ → Bool
stands_before [] [] = false
stands_before [] (y ∷ ys) = true
stands_before (x ∷ xs) [] = false
stands_before (x ∷ xs) (y ∷ ys) = nat_lt x y || ((x == y) && stands_before xs ys)
