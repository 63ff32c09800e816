-- The suffixes that a test keeps, and what is below one.
use Rattle.std.specs.Prelude.{ℕ, ◌-◌, Bool, true, List, [], ◌∷◌, length}
use Rattle.assertions.specs.Suffixes.{suffixes_ending}

-- the test keeps the suffix without its first candidate; for a single candidate it requires nothing
abbrev pub is_parent_kept : (List ℕ → Bool) → List ℕ → Bool
is_parent_kept kept [] = true
is_parent_kept kept (c ∷ []) = true
is_parent_kept kept (c ∷ d ∷ parent) = kept (d ∷ parent)

-- all suffixes that end in the suffix, up to whole orders; read backwards, the least comes first
abbrev pub all_ending : ℕ → List ℕ → List (List ℕ)
all_ending n suffix = suffixes_ending n (n - length suffix) suffix
