-- How the reading of a whole file ends.
use Rattle.std.specs.Prelude.{◌≡◌, ◌≤◌, ◌<◌, ℕ, List, length, Option, None, Some, IfSome, Result, Err, ⊤}
use Rattle.desk.specs.Count.{one_more}
use Rattle.desk.specs.Desk.{File, held_bytes}
use Rattle.desk.specs.Taker.{TookMore}
use Rattle.desk.specs.declared.whole.DeskFault.{DeskFault}
use Rattle.desk.specs.declared.whole.DeskFault.TheVariants.{Missing, ReadFault, TooLong, Memory}

-- why what is held under the name isn't given: nothing is held, it is longer than the limit, or there is another reason
abbrev pub IsWhyUnread : Option (List ℕ) → ℕ → DeskFault → Type 0
IsWhyUnread held limit Missing = held ≡ None
IsWhyUnread held limit TooLong = (bytes : List ℕ) × (held ≡ Some bytes) × (limit < length bytes)
IsWhyUnread held limit ReadFault = ⊤
IsWhyUnread held limit Memory = ⊤

-- the bytes are what is held under the name, if the desk reports that
abbrev pub AreHeld : Option (List File) → List ℕ → List ℕ → Type 0
AreHeld held name bytes = IfSome held (λ files. held_bytes name files ≡ Some bytes)

-- These bytes came. They are within the limit, there are as many as the desk has served, and a taker has taken them after what it
-- had before.
pub record TookAll
    {T : Type 0} (sought : T → Option (List ℕ)) (has_taken : T → List ℕ → Type 0) (old new : T)
    (AreThese : List ℕ → Type 0) (limit served : ℕ) : Type 0 where
  pub bytes : List ℕ
  pub these : AreThese bytes
  pub short : length bytes ≤ limit
  pub all : length bytes ≡ served
  pub took : TookMore sought has_taken old new bytes

-- one more miss if the file is missing
abbrev pub misses_after_reading : {T : Type 0} → Result T DeskFault → ℕ → ℕ
misses_after_reading (Err Missing) misses = one_more misses
misses_after_reading result misses = misses
