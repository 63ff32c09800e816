-- How the ids of batches are found: in a table of places, or among the ids that came later to their place.
use Rattle.std.specs.Prelude.{◌≡◌, ◌≤◌, ◌-◌, ◌%◌, ◌==◌, ℕ, List, [], length, position, slice_index_or, if◌then◌else◌, Option, Some, None, IsTrue}
use Rattle.irv_base.specs.Names.{Id, is_name, is_same}
use Rattle.ballot_ids.specs.Ids.{digest}

-- the place of an id in a table with this many places
abbrev pub place_in : ℕ → Id → ℕ
place_in places id = digest id % places

-- The index of an id. `first` is the number, counted from 1, of the id at its place in the table, or 0. `later` is the index that it has
-- among the ids that came later to their place.
abbrev pub index_by : List Id → ℕ → Option ℕ → Id → Option ℕ
index_by ids first later id =
    if first == 0 then None
    else (if is_same (slice_index_or ids (first - 1) []) id then Some (first - 1) else later)

pub record IsPlaced (ids : List Id) (first : ℕ) (later : Option ℕ) (id : Id) : Type 0 where
  pub index : index_by ids first later id ≡ position (is_same id) ids
  pub within : first ≤ length ids
  -- an id whose place is free isn't among the later ones
  pub free : first ≡ 0 → later ≡ None

-- each id that is a name is placed; other bytes may have the words of one
pub record IsTable (ids : List Id) (table : List ℕ) (later : Id → Option ℕ) : Type 0 where
  pub some : 1 ≤ length table
  pub placed :
      (id : Id) → IsTrue (is_name id) → IsPlaced ids (slice_index_or table (place_in (length table) id) 0) (later id) id
