-- What the fields of a ballot file's records hold, and which records are contests and which are ballots.
use Rattle.std.specs.Prelude.{ℕ, ◌+◌, ◌-◌, ◌&&◌, Bool, nat_le, if◌then◌else◌, List, [], ◌∷◌, filter, take, drop, length, slice_index_or, position, Option, Some, None, option_map}
use Rattle.std.specs.List.{range_with_len}
use Rattle.csv_rows.specs.Numbers.{number_of}
use Rattle.csv_rows.specs.Rows.{Fields}
use Rattle.irv_base.specs.Names.{Id, is_same}
use Rattle.ballots.specs.Grammar.{is_marked}
use Rattle.ballots.specs.declared.limits.TheConstants.{MOST_CONTESTS}
use Rattle.manifest.specs.Spelling.{number_or_0}

-- ---- records and fields

-- the record with that number, counting from 1; a record that isn't there has no fields
abbrev pub record_at : List Fields → ℕ → Fields
record_at rows at = slice_index_or rows (at - 1) []

-- the field after this many others; a field that isn't there is empty
abbrev pub field : Fields → ℕ → List ℕ
field row i = slice_index_or row i []

-- the number that is written this way; 0 if there is none
abbrev pub number_in : List ℕ → ℕ
number_in text = number_or_0 (number_of text)

-- ---- a contest's record: `Contest`, its id, the number of its candidates, and at least that many ids

abbrev pub contest_id : Fields → Id
contest_id row = field row 1

abbrev pub size : Fields → ℕ
size row = number_in (field row 2)

abbrev pub candidates_in : Fields → List Id
candidates_in row = take (size row) (drop 3 row)

-- the candidates of the first of these contests that has that id
abbrev pub candidates_for : List Fields → Id → List Id
candidates_for [] id = []
candidates_for (row ∷ contests) id =
    if is_same (contest_id row) id then candidates_in row else candidates_for contests id

-- ---- a ballot's record: the id of its contest, its own id, and its preferences, the most preferred first

abbrev pub ballot_contest : Fields → Id
ballot_contest row = field row 0

abbrev pub ballot_id : Fields → Id
ballot_id row = field row 1

-- the preferences of a ballot's record, without the blank ones
abbrev pub preferences : Fields → List Id
preferences row = filter is_marked (drop 2 row)

abbrev pub ballots_for : Id → List Fields → List Fields
ballots_for contest ballots = filter (λ row. is_same (ballot_contest row) contest) ballots

-- ---- the file: a record with the number of contests, that many contests, and the ballots

abbrev pub count : List Fields → ℕ
count rows = number_in (field (record_at rows 1) 0)

abbrev pub is_counted : List Fields → Bool
is_counted rows = nat_le 1 (count rows) && nat_le (count rows) MOST_CONTESTS

abbrev pub contests : List Fields → List Fields
contests rows = take (count rows) (drop 1 rows)

abbrev pub ballots : List Fields → List Fields
ballots rows = drop (count rows) (drop 1 rows)

-- the numbers of the records of a contest's ballots
abbrev pub places_of : Id → List Fields → List ℕ
places_of contest rows =
    filter (λ at. is_same (ballot_contest (record_at rows at)) contest)
    (range_with_len (2 + count rows) (length (ballots rows)))

-- ---- the contest that is audited

abbrev pub place_of_only : List Fields → Option ℕ
place_of_only [] = None
place_of_only (contest ∷ []) = Some 2
place_of_only (contest ∷ next ∷ rest) = None

-- the record number of the requested contest, or of the only contest if none is requested
abbrev pub asked_place : Option Id → List Fields → Option ℕ
asked_place None contests = place_of_only contests
asked_place (Some id) contests =
    option_map (λ k. 2 + k) (position (λ row. is_same (contest_id row) id) contests)
