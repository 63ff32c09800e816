-- The lines of a plain text, and the fields of a line.
use Rattle.std.specs.Prelude.{ℕ, Bool, true, not, ◌||◌, ◌==◌, if◌then◌else◌, List, [], ◌∷◌, ◌++◌, Option, Some, None}
use Rattle.std.specs.List.{list_any}
use Rattle.std.proofs.Common.{Bor}
use Rattle.csv_rows.specs.Rows.{Fields}

-- a byte at which `csv` does more than end a field or a record: a double quote, or the first of a byte order mark
abbrev pub is_odd_byte : ℕ → Bool
is_odd_byte b = (b == 0x22) || (b == 0xEF)

abbrev pub is_plain : List ℕ → Bool
is_plain text = not (list_any is_odd_byte text)

-- a carriage return or a line feed
abbrev pub is_line_end : ℕ → Bool
is_line_end b = (b == 0x0D) || (b == 0x0A)

-- the fields, with these bytes in front of the first
abbrev pub with_front : List ℕ → Fields → Fields
with_front bytes [] = []
with_front bytes (field ∷ fields) = (bytes ++ field) ∷ fields

-- the fields of the first line of a text, which its commas separate
abbrev pub fields_in : List ℕ → Fields
fields_in [] = [] ∷ []
fields_in (b ∷ text) =
    if is_line_end b then [] ∷ []
    else if b == 0x2C then [] ∷ fields_in text
    else with_front (b ∷ []) (fields_in text)

-- what comes after the end of the first line
abbrev pub behind_line : List ℕ → List ℕ
behind_line [] = []
behind_line (b ∷ text) = if is_line_end b then text else behind_line text

-- a text of whole lines: it is empty, or its last byte ends a line
abbrev pub are_whole_lines : List ℕ → Bool
are_whole_lines [] = true
are_whole_lines (b ∷ []) = is_line_end b
are_whole_lines (b ∷ next ∷ text) = are_whole_lines (next ∷ text)

-- no line ends in the text
abbrev pub is_unended : List ℕ → Bool
is_unended text = not (list_any is_line_end text)

-- the fields after a comma, up to the end of the line; none if there was no comma
abbrev pub fields_behind : Option (Bor (List ℕ)) → Fields
fields_behind None = []
fields_behind (Some text) = fields_in text.now
