-- What a walk by sets answers.
use Rattle.std.specs.Prelude.{◌≡◌, ◌↔◌, ℕ, ◌<◌, ◌^◌, Bool, nat_lt, if◌then◌else◌, List, length, Option, Some, None, Result, Ok, Err, All, Contains, ⊤}
use Rattle.set_walk.specs.Walks.{counted, standing, first_by_sets}
use Rattle.set_walk.specs.declared.walk.WalkEnd.{WalkEnd}
use Rattle.set_walk.specs.declared.walk.WalkEnd.TheVariants.{Found, Ended}
use Rattle.set_walk.specs.declared.walk.WalkFault.{WalkFault}
use Rattle.set_walk.specs.declared.walk.WalkFault.TheVariants.{Spent, Memory}

-- the first order that walks, if no more sets count than the budget allows
abbrev pub first_within : ℕ → ℕ → ℕ → (ℕ → ℕ → Bool) → Result (Option (List ℕ)) WalkFault
first_within n winner sets goes =
    if nat_lt sets (length (counted n winner goes)) then Err Spent
    else Ok (first_by_sets n winner goes)

-- the walk answers that, with the sets that are reached if no order walks; running out of memory says nothing
abbrev pub IsWalk : ℕ → ℕ → ℕ → (ℕ → ℕ → Bool) → Result WalkEnd WalkFault → Type 0
IsWalk n winner sets goes (Ok (Found order)) = first_within n winner sets goes ≡ Ok (Some order)
IsWalk n winner sets goes (Ok (Ended seen)) =
    (first_within n winner sets goes ≡ Ok None)
    × ((set : ℕ) → (Contains seen.keys set ↔ Contains (standing n winner goes) set))
IsWalk n winner sets goes (Err Spent) = first_within n winner sets goes ≡ Err Spent
IsWalk n winner sets goes (Err Memory) = ⊤

-- if no order walks, the sets that the walk went into are sets of candidates below n
abbrev pub AreSets : ℕ → WalkEnd → Type 0
AreSets n (Found order) = ⊤
AreSets n (Ended seen) = All (λ set. set < 2 ^ n) seen.keys
