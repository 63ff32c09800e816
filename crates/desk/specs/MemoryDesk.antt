-- A desk in memory, as contracts see it.
use Rattle.std.specs.Prelude.{ℕ, List, [], drop, map, Bool, Option, None, Some, slice_get}
use Rattle.desk.specs.Desk.{File}
use Rattle.desk.specs.declared.served.Served.{Served}
use Rattle.desk.specs.declared.memory_desk.Named.{Named}
use Rattle.desk.specs.declared.memory_desk.Place.{Place}

pub record DeskView : Type 0 where
  -- the first file with a name is the one held
  pub files : List File
  -- whether a file is begun, and what is left of it
  pub begun : Bool
  pub left : List ℕ
  -- the numbers of the calls that are to fail, and the number of calls made
  pub fails : List ℕ
  pub calls : ℕ
  pub faults : ℕ
  pub served : Served

abbrev pub file_of : Named → File
file_of named = record { name = named.name; bytes = named.bytes.items }

abbrev pub files_of : List Named → List File
files_of files = map file_of files

-- the bytes of a file from an offset on
abbrev pub bytes_from : ℕ → Option Named → List ℕ
bytes_from at None = []
bytes_from at (Some named) = drop at named.bytes.items

-- what is left from a place on
abbrev pub left_from : List Named → Option Place → List ℕ
left_from files None = []
left_from files (Some place) = bytes_from place.at (slice_get files place.file)
