-- Which words are a line, and what a line asks for.
use Rattle.std.specs.Prelude.{ℕ, Bool, false, not, ◌&&◌, ◌||◌, ◌==◌, nat_le, List, [], ◌∷◌, length, find, slice_get, Option, None, Some, is_some, unwrap_or, option_map, if◌then◌else◌}
use Rattle.std.specs.List.{list_all}
use Rattle.std.specs.Str.{bytes_eq}
use Rattle.irv_base.specs.Names.{Id}
use Rattle.command_line.specs.Table.{form_of, commands, kind_of, is_needed, default_of}
use Rattle.command_line.specs.Pieces.{Piece, pieces, files_in, values_in, fits}
use Rattle.command_line.specs.Values.{is_best, number}
use Rattle.budget.specs.declared.budget.Budget.{Budget}
use Rattle.budget.specs.declared.budget.Budget.TheVariants as budget_of
use Rattle.command.specs.declared.plan_terms.PlanTerms.{PlanTerms}
use Rattle.command_line.specs.declared.commands.Command.{Command}
use Rattle.command_line.specs.declared.commands.Command.TheVariants.{Search, SearchFewest, Tabulate, Check, Trim, Adopt, Sample, Plan, Open, Audit, Report, Poll, PollEach, OpenPlurality, AuditPlurality, Contests, Trial}
use Rattle.command_line.specs.declared.table.Apart.{Apart}
use Rattle.command_line.specs.declared.table.CommandName.{CommandName}
use Rattle.command_line.specs.declared.table.CommandName.TheVariants as name
use Rattle.command_line.specs.declared.table.OptionName.{OptionName}
use Rattle.command_line.specs.declared.table.OptionName.TheVariants.{Contest, Workers, Nodes, Sets, FewestSets, Floor, Gap, Cards, Seed, Draws, Limit, Gamma, EachGamma, Number, Candidates, Ballots}
use Rattle.command_line.specs.declared.table.Together.{Together}

-- ---- the rules

-- the option is given at most once, and exactly once if a line must give it
abbrev pub is_given_right : OptionName → List Piece → Bool
is_given_right option pieces =
    let times = length (values_in option pieces) in
    nat_le times 1 && (times == 1 || not (is_needed (kind_of option)))

abbrev pub is_given : OptionName → List Piece → Bool
is_given option pieces = nat_le 1 (length (values_in option pieces))

-- if the first option is given, the second is given too
abbrev pub is_given_together : Together → List Piece → Bool
is_given_together two pieces = not (is_given two.option pieces) || is_given two.with pieces

-- at most one of the two options is given
abbrev pub is_given_apart : Apart → List Piece → Bool
is_given_apart two pieces = not (is_given two.option pieces && is_given two.other pieces)

-- each option is given correctly, never without the one that it needs, and never together with one that it excludes
abbrev pub are_given : List OptionName → List Together → List Apart → List Piece → Bool
are_given options together apart pieces =
    list_all (λ option. is_given_right option pieces) options
    && list_all (λ two. is_given_together two pieces) together
    && list_all (λ two. is_given_apart two pieces) apart

-- each piece is correct, there are as many files as the command has, and its options are given correctly
abbrev pub are_right : CommandName → List Piece → Bool
are_right command pieces =
    list_all fits pieces && length (files_in pieces) == length (form_of command).files
    && are_given (form_of command).options (form_of command).together (form_of command).apart pieces

-- the pieces of a line of the command
abbrev pub pieces_of : CommandName → List (List ℕ) → List Piece
pieces_of command words = pieces (form_of command).options words

-- the word is the command's, and the words after it are correct
abbrev pub is_line_of : CommandName → List ℕ → List (List ℕ) → Bool
is_line_of command word words =
    bytes_eq (form_of command).word word && are_right command (pieces_of command words)

-- the command whose line the words are; two commands may have the same word
abbrev pub line_named : List ℕ → List (List ℕ) → Option CommandName
line_named word words = find (λ command. is_line_of command word words) commands

abbrev pub is_line : List (List ℕ) → Bool
is_line [] = false
is_line (word ∷ words) = is_some (line_named word words)

-- ---- the meaning

-- the file at a place, counted from 0
abbrev pub file : ℕ → List Piece → List ℕ
file i pieces = unwrap_or (slice_get (files_in pieces) i) []

abbrev pub value : OptionName → List Piece → Option (List ℕ)
value option pieces = slice_get (values_in option pieces) 0

abbrev pub contest : List Piece → Option Id
contest pieces = value Contest pieces

-- the seed of a line that gives one
abbrev pub seed : List Piece → List ℕ
seed pieces = unwrap_or (value Seed pieces) []

-- the given number, if there is one
abbrev pub given_number : OptionName → List Piece → Option ℕ
given_number option pieces = option_map number (value option pieces)

-- the given number, or otherwise the default
abbrev pub number_of : OptionName → List Piece → ℕ
number_of option pieces = unwrap_or (given_number option pieces) (default_of (kind_of option))

-- the number in a text, or none if the text is the word for the best one; without a text, this number
abbrev pub number_or_best : ℕ → Option (List ℕ) → Option ℕ
number_or_best default None = Some default
number_or_best default (Some text) = if is_best text then None else Some (number text)

-- the gamma of a poll with a look after each draw, if it is the same for all assertions
abbrev pub each_gamma : List Piece → Option ℕ
each_gamma pieces = number_or_best (default_of (kind_of EachGamma)) (value EachGamma pieces)

-- this many sets if a line gives them, and this many nodes otherwise
abbrev pub budget_with : ℕ → Option ℕ → Budget
budget_with nodes None = budget_of.Nodes nodes
budget_with nodes (Some sets) = budget_of.Sets sets

abbrev pub budget : List Piece → Budget
budget pieces = budget_with (number_of Nodes pieces) (given_number Sets pieces)

-- what clean draws are planned for, if a line gives a number of cards
abbrev pub terms_with : List Piece → ℕ → PlanTerms
terms_with pieces cards =
    record { cards = cards; limit = number_of Limit pieces; gamma = number_of Gamma pieces }

abbrev pub plan_terms : List Piece → Option PlanTerms
plan_terms pieces = option_map (terms_with pieces) (given_number Cards pieces)

-- the command with its files and the values of its options
abbrev pub meaning : CommandName → List Piece → Command
meaning name.Search pieces = Search (record {
  ballots = file 0 pieces;
  contest = contest pieces;
  workers = number_of Workers pieces;
  budget = budget pieces;
  floor = number_of Floor pieces;
  plan = plan_terms pieces;
})
meaning name.SearchFewest pieces = SearchFewest (record {
  ballots = file 0 pieces;
  contest = contest pieces;
  workers = number_of Workers pieces;
  sets = number_of FewestSets pieces;
  floor = number_of Floor pieces;
  gap = number_of Gap pieces;
  plan = plan_terms pieces;
})
meaning name.Tabulate pieces = Tabulate (record {
  ballots = file 0 pieces;
  contest = contest pieces;
  nodes = number_of Nodes pieces;
})
meaning name.Check pieces = Check (record {
  ballots = file 0 pieces;
  assertions = file 1 pieces;
  contest = contest pieces;
  budget = budget pieces;
})
meaning name.Trim pieces = Trim (record {
  ballots = file 0 pieces;
  assertions = file 1 pieces;
  contest = contest pieces;
  budget = budget pieces;
})
meaning name.Adopt pieces = Adopt (record {
  ballots = file 0 pieces;
  claims = file 1 pieces;
  contest = contest pieces;
  budget = budget pieces;
})
meaning name.Sample pieces = Sample (record {
  manifest = file 0 pieces;
  seed = seed pieces;
  draws = number_of Draws pieces;
})
meaning name.Plan pieces = Plan (record {
  manifest = file 0 pieces;
  assertions = file 1 pieces;
  limit = number_of Limit pieces;
  gamma = number_of Gamma pieces;
})
meaning name.Open pieces = Open (record {
  ballots = file 0 pieces;
  manifest = file 1 pieces;
  assertions = file 2 pieces;
  seed = seed pieces;
  contest = contest pieces;
  limit = number_of Limit pieces;
  gamma = number_of Gamma pieces;
  budget = budget pieces;
})
meaning name.Audit pieces = Audit (record {
  session = file 0 pieces;
  ballots = file 1 pieces;
  manifest = file 2 pieces;
  assertions = file 3 pieces;
  seen = file 4 pieces;
  draws = number_of Draws pieces;
  budget = budget pieces;
})
meaning name.Report pieces = Report (record { session = file 0 pieces })
meaning name.Poll pieces = Poll (record {
  manifest = file 0 pieces;
  assertions = file 1 pieces;
  seen = file 2 pieces;
  seed = seed pieces;
  draws = number_of Draws pieces;
  limit = number_of Limit pieces;
  gamma = number_of Gamma pieces;
  nodes = number_of Nodes pieces;
})
meaning name.PollEach pieces = PollEach (record {
  manifest = file 0 pieces;
  assertions = file 1 pieces;
  seen = file 2 pieces;
  seed = seed pieces;
  draws = number_of Draws pieces;
  limit = number_of Limit pieces;
  gamma = each_gamma pieces;
  nodes = number_of Nodes pieces;
})
meaning name.OpenPlurality pieces = OpenPlurality (record {
  ballots = file 0 pieces;
  manifest = file 1 pieces;
  seed = seed pieces;
  contest = contest pieces;
  limit = number_of Limit pieces;
  gamma = number_of Gamma pieces;
})
meaning name.AuditPlurality pieces = AuditPlurality (record {
  session = file 0 pieces;
  ballots = file 1 pieces;
  manifest = file 2 pieces;
  seen = file 3 pieces;
  draws = number_of Draws pieces;
})
meaning name.Contests pieces = Contests (record {
  ballots = file 0 pieces;
  manifest = file 1 pieces;
  seen = file 2 pieces;
  seed = seed pieces;
  draws = number_of Draws pieces;
  limit = number_of Limit pieces;
  gamma = number_of Gamma pieces;
  workers = number_of Workers pieces;
  nodes = number_of Nodes pieces;
})
meaning name.Trial pieces = Trial (record {
  number = number_of Number pieces;
  candidates = number_of Candidates pieces;
  ballots = number_of Ballots pieces;
  workers = number_of Workers pieces;
  budget = budget pieces;
})

-- the command that the words ask for
abbrev pub command_of : List (List ℕ) → Option Command
command_of [] = None
command_of (word ∷ words) =
    option_map (λ name. meaning name (pieces_of name words)) (line_named word words)
