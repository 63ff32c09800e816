-- What the words after a command word mean: files, and options with their values.
use Rattle.std.specs.Prelude.{ℕ, Bool, false, not, ◌==◌, nat_eq, List, [], ◌∷◌, map, filter_map, find, drop, length, Option, None, Some, is_some, if◌then◌else◌, codes}
use Rattle.std.specs.List.{list_any, starts_with, before_first, after_first}
use Rattle.std.specs.Str.{bytes_eq}
use Rattle.command_line.specs.Table.{text_of, kind_of, is_flag, is_same}
use Rattle.command_line.specs.Values.{is_value}
use Rattle.command_line.specs.declared.table.OptionName.{OptionName}

pub data Piece : Type 0 where
  File : List ℕ → Piece
  Given : OptionName → List ℕ → Piece
  -- a word that has no place in a line
  Stray : Piece

-- ---- a word by itself, before a word `--`

pub data WordSort : Type 0 where
  -- `--`
  Dashes : WordSort
  -- it doesn't begin with a hyphen
  Plain : WordSort
  -- `--name` of a flag of the command
  Flagged : OptionName → WordSort
  -- `--name`, and `--name=value`, of another option of the command
  Named : OptionName → WordSort
  Valued : OptionName → List ℕ → WordSort
  Unknown : WordSort

abbrev pub is_equals : ℕ → Bool
is_equals b = b == 0x3D

abbrev pub option_named : List OptionName → List ℕ → Option OptionName
option_named options name = find (λ option. bytes_eq (text_of option) name) options

abbrev pub named : Option OptionName → WordSort
named None = Unknown
named (Some option) = if is_flag (kind_of option) then Flagged option else Named option

abbrev pub valued : Option OptionName → List ℕ → WordSort
valued None value = Unknown
valued (Some option) value = if is_flag (kind_of option) then Unknown else Valued option value

-- by what follows the two hyphens
abbrev pub long_sort : List OptionName → List ℕ → WordSort
long_sort options long =
    if list_any is_equals long
    then valued (option_named options (before_first is_equals long)) (after_first is_equals long)
    else named (option_named options long)

abbrev pub begins_with_hyphen : List ℕ → Bool
begins_with_hyphen word = starts_with nat_eq word (codes "-")

abbrev pub word_sort : List OptionName → List ℕ → WordSort
word_sort options word =
    if bytes_eq word (codes "--") then Dashes
    else if starts_with nat_eq word (codes "--") then long_sort options (drop 2 word)
    else if begins_with_hyphen word then Unknown
    else Plain

-- ---- the words in turn

-- the word after `--name`
abbrev pub value_piece : OptionName → List ℕ → Piece
value_piece option word = if begins_with_hyphen word then Stray else Given option word

-- the pieces of a word of this sort and of the words after it. more gives the pieces of the words after it; if an option waits for a value,
-- the first of these words is its value.
abbrev pub pieces_at : WordSort → List ℕ → List (List ℕ) → (Option OptionName → List Piece) →
    List Piece
pieces_at Dashes word words more = map File words
pieces_at Plain word words more = File word ∷ more None
pieces_at (Flagged option) word words more = Given option [] ∷ more None
pieces_at (Named option) word words more = more (Some option)
pieces_at (Valued option value) word words more = Given option value ∷ more None
pieces_at Unknown word words more = Stray ∷ more None

abbrev pub pieces_from : List OptionName → Option OptionName → List (List ℕ) → List Piece
pieces_from options (Some option) [] = Stray ∷ []
pieces_from options (Some option) (word ∷ words) =
    value_piece option word ∷ pieces_from options None words
pieces_from options None [] = []
pieces_from options None (word ∷ words) =
    pieces_at (word_sort options word) word words (λ waiting. pieces_from options waiting words)

abbrev pub pieces : List OptionName → List (List ℕ) → List Piece
pieces options words = pieces_from options None words

-- the pieces of words, all of which are files if only_files is set
abbrev pub pieces_left : Bool → List OptionName → List (List ℕ) → List Piece
pieces_left only_files options words = if only_files then map File words else pieces options words

-- ---- files and values

abbrev pub file_in : Piece → Option (List ℕ)
file_in (File name) = Some name
file_in (Given option value) = None
file_in Stray = None

abbrev pub is_file : Piece → Bool
is_file piece = is_some (file_in piece)

abbrev pub files_in : List Piece → List (List ℕ)
files_in pieces = filter_map file_in pieces

abbrev pub value_in : OptionName → Piece → Option (List ℕ)
value_in option (File name) = None
value_in option (Given other value) = if is_same other option then Some value else None
value_in option Stray = None

abbrev pub gives : OptionName → Piece → Bool
gives option piece = is_some (value_in option piece)

-- all values of an option
abbrev pub values_in : OptionName → List Piece → List (List ℕ)
values_in option pieces = filter_map (value_in option) pieces

-- a file has a name, and a value is of its option's kind
abbrev pub fits : Piece → Bool
fits (File name) = not (length name == 0)
fits (Given option value) = is_value (kind_of option) value
fits Stray = false
