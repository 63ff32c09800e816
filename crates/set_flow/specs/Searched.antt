-- How a search ends.
use Rattle.std.specs.Prelude.{◌≡◌, ℕ, true, false, length}
use Rattle.set_walk.specs.Dives.{is_seen}
use Rattle.set_flow.specs.declared.room.Room.{Room}
use Rattle.set_flow.specs.declared.searching.Search.{Search}
use Rattle.set_flow.specs.declared.searching.Search.TheVariants.{Reached, Stuck}
use Rattle.set_flow.specs.declared.seen.Seen.{Seen}
use Rattle.set_flow.specs.Seen.{AreLinked, AreLinks, AreLooked, IsReached}

-- the set of all is the last of the seen sets
pub record IsWay (n all : ℕ) (seen : Seen) : Type 0 where
  pub linked : AreLinked n seen.sets.keys seen.from.items seen.by.items
  pub last : IsReached seen.sets.keys all true

-- the set of all isn't one of the seen sets
pub record IsShut (n all : ℕ) (seen : Seen) : Type 0 where
  pub linked : AreLinked n seen.sets.keys seen.from.items seen.by.items
  pub none : is_seen seen.sets.keys all ≡ false

abbrev pub IsSearch : ℕ → ℕ → Search → Type 0
IsSearch n all (Reached seen) = IsWay n all seen
IsSearch n all (Stuck seen) = IsShut n all seen

-- a unit can reach the set of all by these links, or can't go from these sets to another
abbrev pub IsSearchBy : ℕ → (ℕ → ℕ → Room) → (ℕ → ℕ → ℕ) → Search → Type 0
IsSearchBy n rooms flow (Reached seen) =
    AreLinks rooms flow seen.sets.keys seen.from.items seen.by.items
IsSearchBy n rooms flow (Stuck seen) =
    AreLooked n rooms flow seen.sets.keys (length seen.sets.keys)
