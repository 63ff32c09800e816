-- The records that have a number, and their fields without the blanks around them.
use Rattle.std.specs.Prelude.{ℕ, Bool, false, not, ◌||◌, ◌==◌, nat_eq, if◌then◌else◌, List, [], ◌∷◌, map, filter, drop, length}
use Rattle.std.specs.List.{list_all, starts_with}
use Rattle.csv_rows.specs.Rows.{Fields, records_of}

-- ---- the blanks around a field are removed

-- a space or a tab
abbrev pub is_blank : ℕ → Bool
is_blank b = (b == 0x20) || (b == 0x09)

abbrev pub trimmed_start : List ℕ → List ℕ
trimmed_start [] = []
trimmed_start (b ∷ text) = if is_blank b then trimmed_start text else b ∷ text

abbrev pub trimmed_end : List ℕ → List ℕ
trimmed_end [] = []
trimmed_end (b ∷ text) = if list_all is_blank (b ∷ text) then [] else b ∷ trimmed_end text

abbrev pub trimmed : List ℕ → List ℕ
trimmed field = trimmed_end (trimmed_start field)

abbrev pub trimmed_fields : Fields → Fields
trimmed_fields fields = map trimmed fields

-- ---- blank records have no number

-- the only field is empty
abbrev pub is_blank_record : Fields → Bool
is_blank_record [] = false
is_blank_record (field ∷ []) = length field == 0
is_blank_record (field ∷ next ∷ rest) = false

abbrev pub numbered : List Fields → List Fields
numbered records = filter (λ fields. not (is_blank_record fields)) (map trimmed_fields records)

-- ---- one byte order mark is not part of a file

abbrev pub byte_order_mark : List ℕ
byte_order_mark = 0xEF ∷ 0xBB ∷ 0xBF ∷ []

abbrev pub without_mark : List ℕ → List ℕ
without_mark bytes = if starts_with nat_eq bytes byte_order_mark then drop 3 bytes else bytes

-- the records of a file, numbered from 1 in this list
abbrev pub numbered_records : List ℕ → List Fields
numbered_records bytes = numbered (records_of (without_mark bytes))
