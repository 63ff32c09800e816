-- How a walk goes over a list of suffixes.
use Rattle.std.specs.Prelude.{ℕ, ◌+◌, Bool, nat_lt, if◌then◌else◌, List, [], ◌∷◌, length, Result, Ok, Err}
use Rattle.suffix_walk.specs.declared.walk.Stop.{Stop}
use Rattle.suffix_walk.specs.declared.walk.Stop.TheVariants.{Found, Spent}

-- counts the suffixes that are kept, up to the first that is whole, and stops if there are more than nodes
abbrev pub walked : ℕ → ℕ → (List ℕ → Bool) → ℕ → List (List ℕ) → Result ℕ Stop
walked n nodes kept count [] = Ok count
walked n nodes kept count (suffix ∷ rest) =
    if kept suffix
    then (if nat_lt (length suffix) n
    then (if nat_lt count nodes then walked n nodes kept (count + 1) rest else Err Spent)
    else Err (Found suffix))
    else walked n nodes kept count rest
