-- What opens when a claim is removed.
use Rattle.std.specs.Prelude.{ℕ, ◌+◌, nat_lt, if◌then◌else◌, Bool, true, false, not, ◌&&◌, ◌||◌, List, Option, Some, None, Result, Ok, Err}
use Rattle.std.specs.List.{list_any}
use Rattle.irv_base.specs.Candidates.{has, members}
use Rattle.assertions.specs.declared.assertion.Assertion.{Assertion}
use Rattle.assertions.specs.declared.assertion.Assertion.TheVariants.{Neb, Nen}
use Rattle.assertions.specs.Refutation.{refutes}
use Rattle.suffix_walk.specs.declared.walk.Stop.{Stop as WalkStop}
use Rattle.suffix_walk.specs.declared.walk.Stop.TheVariants.{Found as WalkFound, Spent as WalkSpent}
use Rattle.cover_checker.specs.Covers.{stands}
use Rattle.trimmer.specs.declared.opened.Stop.{Stop}
use Rattle.trimmer.specs.declared.opened.Stop.TheVariants.{Found, Spent}

-- the claim refutes the suffix; if there is no claim, every suffix is examined
abbrev pub is_open : Option Assertion → List ℕ → Bool
is_open None suffix = true
is_open (Some claim) suffix = refutes claim suffix

-- no other claim refutes the suffix, and the claim does
abbrev pub opens : List Assertion → Option Assertion → List ℕ → Bool
opens others claim suffix = stands others suffix && is_open claim suffix

-- a claim that doesn't refute a suffix of this set refutes none that ends in it
abbrev pub is_past : Assertion → ℕ → Bool
is_past (Neb w l) set = has set w
is_past (Nen w l rest) set = has set w || list_any (λ d. not (has rest d)) (members set)

-- the end of a walk, without the order that it found
abbrev pub told : Result ℕ WalkStop → Result ℕ Stop
told (Ok count) = Ok count
told (Err (WalkFound order)) = Err Found
told (Err WalkSpent) = Err Spent

-- the count with one more suffix, if the suffix is open
abbrev pub counted : Bool → ℕ → ℕ → Result ℕ Stop
counted true count nodes = if nat_lt count nodes then Ok (count + 1) else Err Spent
counted false count nodes = Ok count
