-- The one form in which a line is passed to `clap`, and what the matches then show.
use Rattle.std.specs.Prelude.{◌≡◌, ℕ, suc, List, [], ◌∷◌, ◌++◌, map, fold, length, Option, None, Some, Result, IfOk, unwrap_or, codes, if◌then◌else◌, Bool, true, ◌&&◌, ◌||◌, ◌==◌, ◌^◌, nat_lt}
use Rattle.std.specs.List.{range_with_len, list_all}
use Rattle.std.specs.declared.alloc.AllocError.{AllocError}
use Rattle.clap.specs.Walk.{Row, Rule, first_of}
use Rattle.clap.specs.Simple.{App, new_app, new_rule, with_rule}
use Rattle.irv_base.specs.Names.{Id, is_name}
use Rattle.sampler.specs.Seeds.{is_seed}
use Rattle.command_line.specs.Line.{are_right, file, meaning, value}
use Rattle.command_line.specs.Pieces.{Piece, fits}
use Rattle.command_line.specs.Table.{form_of, text_of}
use Rattle.command_line.specs.Values.{is_number, number}
use Rattle.command_line.specs.declared.commands.Command.{Command}
use Rattle.command_line.specs.declared.table.CommandName.{CommandName}
use Rattle.command_line.specs.declared.table.OptionName.{OptionName}
use Rattle.command_line.specs.declared.table.OptionName.TheVariants.{Seed}

-- the value of an option, or no text if it isn't given
abbrev pub value_text : OptionName → List Piece → List ℕ
value_text option pieces = unwrap_or (value option pieces) []

abbrev pub option_word : OptionName → List ℕ → List ℕ
option_word option value = codes "--" ++ (text_of option ++ (codes "=" ++ value))

abbrev pub options_given : List OptionName → List Piece → List (List ℕ)
options_given options pieces = map (λ option. option_word option (value_text option pieces)) options

abbrev pub files_given : ℕ → List Piece → List (List ℕ)
files_given n pieces = map (λ i. file i pieces) (range_with_len 0 n)

-- the command's word, each of its options, `--`, and the files
abbrev pub one_form : CommandName → List Piece → List (List ℕ)
one_form command pieces =
    (form_of command).word ∷ options_given (form_of command).options pieces
    ++ codes "--" ∷ files_given (length (form_of command).files) pieces

-- ---- the command that is made for it

-- a long option, by its name
abbrev pub option_rule : List ℕ → Rule
option_rule name = record (new_rule name) { long = Some name }

abbrev pub option_rules : List OptionName → List Rule
option_rules options = map (λ option. option_rule (text_of option)) options

abbrev pub with_rules : App → List Rule → App
with_rules app rules = fold with_rule app rules

-- the command with this word, these files and these options
abbrev pub app_for : List ℕ → List (List ℕ) → List OptionName → App
app_for word files options =
    with_rules (with_rules (new_app word) (option_rules options)) (map new_rule files)

abbrev pub app_of_command : CommandName → App
app_of_command command = let form = form_of command in app_for form.word form.files form.options

-- ---- what its matches show

abbrev pub IsShown : OptionName → List Piece → List Row → Type 0
IsShown option pieces rows = first_of (text_of option) rows ≡ Some (value_text option pieces)

abbrev pub ShowsOptions : List Row → List Piece → List OptionName → Type 0
ShowsOptions rows pieces [] = Unit {0}
ShowsOptions rows pieces (option ∷ options) =
    IsShown option pieces rows × ShowsOptions rows pieces options

abbrev pub ShowsFiles : List Row → List Piece → ℕ → List (List ℕ) → Type 0
ShowsFiles rows pieces i [] = Unit {0}
ShowsFiles rows pieces i (name ∷ names) =
    (first_of name rows ≡ Some (file i pieces)) × ShowsFiles rows pieces (suc i) names

pub record Shows (command : CommandName) (pieces : List Piece) (rows : List Row) : Type 0 where
  pub options : ShowsOptions rows pieces (form_of command).options
  pub files : ShowsFiles rows pieces 0 (form_of command).files

-- the matches are those of a line of the command
pub record AreOfLine (command : CommandName) (rows : List Row) : Type 0 where
  pub pieces : List Piece
  pub right : are_right command pieces ≡ true
  pub shows : Shows command pieces rows

-- the matches show a seed
abbrev pub HasSeed : List Row → Type 0
HasSeed rows = (text : List ℕ) × (is_seed text ≡ true) × (first_of (text_of Seed) rows ≡ Some text)

-- the result, if there is one, is the command that the pieces mean whose matches are shown
abbrev pub IsMeant : CommandName → List Row → Result Command AllocError → Type 0
IsMeant name rows result =
    (pieces : List Piece) → list_all fits pieces ≡ true → Shows name pieces rows →
    IfOk result (λ command. command ≡ meaning name pieces)

-- ---- a text that is passed on

abbrev pub name_in : List ℕ → Option Id
name_in text = if is_name text then Some text else None

-- the text is a number that has room, or there is no text
abbrev pub may_be_number : List ℕ → Bool
may_be_number text = length text == 0 || (is_number text && nat_lt (number text) (2 ^ 32))

abbrev pub number_in : List ℕ → Option ℕ
number_in text = if length text == 0 then None else Some (number text)
