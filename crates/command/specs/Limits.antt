-- The conditions that make up the limits of tasks.
use Rattle.std.specs.Prelude.{◌≤◌, ℕ, List, length}

-- a file has a name
abbrev pub IsNamed : List ℕ → Type 0
IsNamed file = 1 ≤ length file

-- a number from the first to the second
abbrev pub IsFromTo : ℕ → ℕ → ℕ → Type 0
IsFromTo least most n = (least ≤ n) × (n ≤ most)

-- a number from 1 to this one
abbrev pub IsUpTo : ℕ → ℕ → Type 0
IsUpTo most n = IsFromTo 1 most n
