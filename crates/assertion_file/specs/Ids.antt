-- Candidates by their ids, in a contest with this list of ids.
use Rattle.std.specs.Prelude.{ℕ, List, [], length, map, filter, slice_index_or}
use Rattle.std.specs.List.{position_or_len}
use Rattle.irv_base.specs.Candidates.{candidates, has}
use Rattle.irv_base.specs.Names.{Id, is_same}

-- the id of candidate c
abbrev pub id_of : List Id → ℕ → Id
id_of ids c = slice_index_or ids c []

abbrev pub ids_of : List Id → List ℕ → List Id
ids_of ids cs = map (id_of ids) cs

-- the ids of the candidates in the set, in the order of the list
abbrev pub ids_in : List Id → ℕ → List Id
ids_in ids set = ids_of ids (filter (has set) (candidates (length ids)))

-- ---- from ids to numbers

-- the number of the candidate with that id, or the number of candidates if there is none
abbrev pub number_of : List Id → Id → ℕ
number_of ids id = position_or_len (λ other. is_same other id) ids

abbrev pub numbers_of : List Id → List Id → List ℕ
numbers_of ids names = map (number_of ids) names
