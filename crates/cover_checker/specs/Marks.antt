-- Sets with marks.
use Rattle.std.specs.Prelude.{◌≡◌, ℕ, ◌<◌, Bool, false, List, length, take, get_or}
use Rattle.set_walk.specs.Dives.{is_seen}
use Rattle.cover_checker.specs.Numbered.{under}
use Rattle.cover_checker.specs.declared.numbered.Numbered.{Numbered}

-- no set is among those before it
abbrev pub IsEachNew : List ℕ → Type 0
IsEachNew sets = (i : ℕ) → i < length sets → is_seen (take i sets) (get_or sets i 0) ≡ false

-- the value under each set's number is whether the set is in the list, which has each set once
pub record AreMarked (sets : List ℕ) (marks : Numbered Bool) : Type 0 where
  pub none : marks.none ≡ false
  pub marked : (set : ℕ) → under marks set ≡ is_seen sets set
  pub new : IsEachNew sets
