-- What the checker's walk from set to set answers.
use Rattle.std.specs.Prelude.{◌≡◌, ◌↔◌, ◌≤◌, ℕ, Bool, List, ◌++◌, length, Some, None, Result, Ok, Err, Contains, ⊤}
use Rattle.set_walk.specs.Answers.{first_within}
use Rattle.set_walk.specs.Dives.{Seen}
use Rattle.set_walk.specs.Walks.{standing}
use Rattle.set_walk.specs.declared.walk.Stop.TheVariants.{Found as WalkFound, Spent as WalkSpent}
use Rattle.set_walk.specs.declared.walk.WalkFault.TheVariants.{Spent as WereSpent}
use Rattle.cover_checker.specs.declared.cover.CoverFault.{CoverFault}
use Rattle.cover_checker.specs.declared.cover.CoverFault.TheVariants.{Spent as CoverSpent, SpentSets, Memory as CoverMemory}
use Rattle.cover_checker.specs.declared.walk.SetWalk.{SetWalk}
use Rattle.cover_checker.specs.declared.walk.SetWalk.TheVariants.{Found as EndFound, Ended}
use Rattle.cover_checker.specs.declared.walk.Stop.{Stop}
use Rattle.cover_checker.specs.declared.walk.Stop.TheVariants.{Found, Spent, Memory}

-- the new list is the old one with more after it
abbrev pub Extends : List ℕ → List ℕ → Type 0
Extends old new = (more : List ℕ) × (new ≡ old ++ more)

-- if the walk stops, it stops for this reason; running out of memory says nothing
abbrev pub IsStop : Seen → Stop → Type 0
IsStop seen (Found order) = seen ≡ Err (WalkFound order)
IsStop seen Spent = seen ≡ Err WalkSpent
IsStop seen Memory = ⊤

abbrev pub stopped : ℕ → Stop → Result SetWalk CoverFault
stopped sets (Found order) = Ok (EndFound order)
stopped sets Spent = Err (SpentSets sets)
stopped sets Memory = Err CoverMemory

-- the first order that stands, if no more sets count than the budget has; otherwise the sets that are reached; running out of memory says
-- nothing
abbrev pub IsReach : ℕ → ℕ → ℕ → (ℕ → ℕ → Bool) → Result SetWalk CoverFault → Type 0
IsReach n winner sets goes (Ok (EndFound order)) = first_within n winner sets goes ≡ Ok (Some order)
IsReach n winner sets goes (Ok (Ended reached)) =
    (first_within n winner sets goes ≡ Ok None)
    × ((set : ℕ) → (Contains reached set ↔ Contains (standing n winner goes) set))
    × (length reached ≤ sets)
IsReach n winner sets goes (Err (CoverSpent last)) = ⊥
IsReach n winner sets goes (Err (SpentSets told)) = (told ≡ sets) × (first_within n winner sets goes ≡ Err WereSpent)
IsReach n winner sets goes (Err CoverMemory) = ⊤
