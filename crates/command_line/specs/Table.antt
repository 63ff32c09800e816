-- The commands and the options, one line for each.
use Rattle.std.specs.Prelude.{ℕ, Bool, true, false, List, [], ◌∷◌, None, Some, is_none, unwrap_or, codes}
use Rattle.irv_base.specs.declared.limits.TheConstants.{FEWEST_CANDIDATES, GREATEST_GAMMA, GREATEST_LIMIT, MOST_CANDIDATES, MOST_CARDS, MOST_DRAWS, MOST_RECORDS, MOST_WORKERS}
use Rattle.budget.specs.declared.limits.TheConstants.{MOST_NODES, DEFAULT_NODES, MOST_SETS}
use Rattle.km_risk.specs.declared.limits.TheConstants.{GREATEST_EACH_GAMMA}
use Rattle.command.specs.declared.limits.TheConstants.{MOST_FLOOR, MOST_GAP, MOST_TRIAL_NUMBER, DEFAULT_WORKERS, DEFAULT_FLOOR, DEFAULT_GAP, DEFAULT_LIMIT, DEFAULT_GAMMA, DEFAULT_CANDIDATES, DEFAULT_BALLOTS}
use Rattle.command_line.specs.declared.table.Apart.{Apart}
use Rattle.command_line.specs.declared.table.CommandName.{CommandName}
use Rattle.command_line.specs.declared.table.CommandName.TheVariants.{Search, SearchFewest, Tabulate, Check, Trim, Adopt, Sample, Plan, Open, Audit, Report, Poll, PollEach, OpenPlurality, AuditPlurality, Contests, Trial}
use Rattle.command_line.specs.declared.table.OptionName.{OptionName}
use Rattle.command_line.specs.declared.table.OptionName.TheVariants as option
use Rattle.command_line.specs.declared.table.Together.{Together}
use Rattle.command_line.specs.declared.table.ValueKind.{ValueKind}
use Rattle.command_line.specs.declared.table.ValueKind.TheVariants.{Id, Seed, Number, FreeNumber, NumberOrBest, Flag}

-- what a line of a command has: its word, its files in order, the options that it may have, the options that it may give only together
-- with others, and the options that it may give only without others
pub record Form : Type 0 where
  pub word : List ℕ
  pub files : List (List ℕ)
  pub options : List OptionName
  pub together : List Together
  pub apart : List Apart

-- a form whose options don't depend on each other
abbrev row : List ℕ → List (List ℕ) → List OptionName → Form
row word files options =
    record { word = word; files = files; options = options; together = []; apart = [] }

-- a form whose budget is in nodes or in sets
abbrev budget_row : List ℕ → List (List ℕ) → List OptionName → Form
budget_row word files options = record (row word files options) {
  apart = record { option = option.Nodes; other = option.Sets } ∷ [];
}

abbrev pub form_of : CommandName → Form
form_of Search =
    record (budget_row (codes "search") (codes "ballots" ∷ [])
    (option.Contest ∷ option.Workers ∷ option.Nodes ∷ option.Sets ∷ option.Floor ∷ option.Cards
    ∷ option.Limit ∷ option.Gamma ∷ [])) {
      together = record { option = option.Limit; with = option.Cards }
          ∷ record { option = option.Gamma; with = option.Cards } ∷ [];
    }
form_of SearchFewest =
    record (row (codes "search") (codes "ballots" ∷ [])
    (option.Contest ∷ option.Workers ∷ option.FewestSets ∷ option.Floor ∷ option.Gap ∷ option.Cards
    ∷ option.Limit ∷ option.Gamma ∷ option.Fewest ∷ [])) {
      together = record { option = option.Limit; with = option.Cards }
          ∷ record { option = option.Gamma; with = option.Cards } ∷ [];
    }
form_of Tabulate =
    row (codes "tabulate") (codes "ballots" ∷ []) (option.Contest ∷ option.Nodes ∷ [])
form_of Check =
    budget_row (codes "check") (codes "ballots" ∷ codes "assertions" ∷ [])
    (option.Contest ∷ option.Nodes ∷ option.Sets ∷ [])
form_of Trim =
    budget_row (codes "trim") (codes "ballots" ∷ codes "assertions" ∷ [])
    (option.Contest ∷ option.Nodes ∷ option.Sets ∷ [])
form_of Adopt =
    budget_row (codes "adopt") (codes "ballots" ∷ codes "claims" ∷ [])
    (option.Contest ∷ option.Nodes ∷ option.Sets ∷ [])
form_of Sample =
    row (codes "sample") (codes "manifest" ∷ []) (option.Seed ∷ option.Draws ∷ [])
form_of Plan =
    row (codes "plan") (codes "manifest" ∷ codes "assertions" ∷ [])
    (option.Limit ∷ option.Gamma ∷ [])
form_of Open =
    budget_row (codes "open") (codes "ballots" ∷ codes "manifest" ∷ codes "assertions" ∷ [])
    (option.Seed ∷ option.Contest ∷ option.Limit ∷ option.Gamma ∷ option.Nodes ∷ option.Sets ∷ [])
form_of Audit =
    budget_row (codes "audit")
    (codes "session" ∷ codes "ballots" ∷ codes "manifest" ∷ codes "assertions" ∷ codes "seen" ∷ [])
    (option.Draws ∷ option.Nodes ∷ option.Sets ∷ [])
form_of Report = row (codes "report") (codes "session" ∷ []) []
form_of Poll =
    row (codes "poll") (codes "manifest" ∷ codes "assertions" ∷ codes "seen" ∷ [])
    (option.Seed ∷ option.Draws ∷ option.Limit ∷ option.Gamma ∷ option.Nodes ∷ [])
form_of PollEach =
    row (codes "poll") (codes "manifest" ∷ codes "assertions" ∷ codes "seen" ∷ [])
    (option.Seed ∷ option.Draws ∷ option.Limit ∷ option.EachGamma ∷ option.Nodes ∷ option.Each ∷ [])
form_of OpenPlurality =
    row (codes "plurality") (codes "ballots" ∷ codes "manifest" ∷ [])
    (option.Seed ∷ option.Contest ∷ option.Limit ∷ option.Gamma ∷ [])
form_of AuditPlurality =
    row (codes "plurality")
    (codes "session" ∷ codes "ballots" ∷ codes "manifest" ∷ codes "seen" ∷ [])
    (option.Draws ∷ [])
form_of Contests =
    row (codes "contests") (codes "ballots" ∷ codes "manifest" ∷ codes "seen" ∷ [])
    (option.Seed ∷ option.Draws ∷ option.Limit ∷ option.Gamma ∷ option.Workers ∷ option.Nodes ∷ [])
form_of Trial =
    budget_row (codes "trial") []
    (option.Number ∷ option.Candidates ∷ option.Ballots ∷ option.Workers ∷ option.Nodes
    ∷ option.Sets ∷ [])

abbrev pub commands : List CommandName
commands =
    Search ∷ SearchFewest ∷ Tabulate ∷ Check ∷ Trim ∷ Adopt ∷ Sample ∷ Plan ∷ Open ∷ Audit ∷ Report ∷ Poll
    ∷ PollEach ∷ OpenPlurality ∷ AuditPlurality ∷ Contests ∷ Trial ∷ []

-- an option's name, without the hyphens. The gamma of a poll with a look after each draw has the same name as the gamma, and the sets of a
-- search for the fewest NENs have the same name as the sets
abbrev pub text_of : OptionName → List ℕ
text_of option.Contest = codes "contest"
text_of option.Workers = codes "workers"
text_of option.Nodes = codes "nodes"
text_of option.Sets = codes "sets"
text_of option.FewestSets = codes "sets"
text_of option.Fewest = codes "fewest"
text_of option.Floor = codes "floor"
text_of option.Gap = codes "gap"
text_of option.Cards = codes "cards"
text_of option.Seed = codes "seed"
text_of option.Draws = codes "draws"
text_of option.Limit = codes "limit"
text_of option.Gamma = codes "gamma"
text_of option.EachGamma = codes "gamma"
text_of option.Each = codes "each"
text_of option.Number = codes "number"
text_of option.Candidates = codes "candidates"
text_of option.Ballots = codes "ballots"

-- what the value of an option may be
abbrev pub kind_of : OptionName → ValueKind
kind_of option.Contest = Id
kind_of option.Workers = Number 1 MOST_WORKERS (Some DEFAULT_WORKERS)
kind_of option.Nodes = Number 1 MOST_NODES (Some DEFAULT_NODES)
kind_of option.Sets = FreeNumber 1 MOST_SETS
kind_of option.FewestSets = Number 1 MOST_SETS (Some MOST_SETS)
kind_of option.Fewest = Flag
kind_of option.Floor = Number 1 MOST_FLOOR (Some DEFAULT_FLOOR)
kind_of option.Gap = Number 0 MOST_GAP (Some DEFAULT_GAP)
kind_of option.Cards = FreeNumber 1 MOST_CARDS
kind_of option.Seed = Seed
kind_of option.Draws = Number 1 MOST_DRAWS None
kind_of option.Limit = Number 1 GREATEST_LIMIT (Some DEFAULT_LIMIT)
kind_of option.Gamma = Number 1 GREATEST_GAMMA (Some DEFAULT_GAMMA)
kind_of option.EachGamma = NumberOrBest 1 GREATEST_EACH_GAMMA DEFAULT_GAMMA
kind_of option.Each = Flag
kind_of option.Number = Number 0 MOST_TRIAL_NUMBER None
kind_of option.Candidates = Number FEWEST_CANDIDATES MOST_CANDIDATES (Some DEFAULT_CANDIDATES)
kind_of option.Ballots = Number 1 MOST_RECORDS (Some DEFAULT_BALLOTS)

-- the two are one option
abbrev pub is_same : OptionName → OptionName → Bool
is_same option.Contest option.Contest = true
is_same option.Workers option.Workers = true
is_same option.Nodes option.Nodes = true
is_same option.Sets option.Sets = true
is_same option.FewestSets option.FewestSets = true
is_same option.Fewest option.Fewest = true
is_same option.Floor option.Floor = true
is_same option.Gap option.Gap = true
is_same option.Cards option.Cards = true
is_same option.Seed option.Seed = true
is_same option.Draws option.Draws = true
is_same option.Limit option.Limit = true
is_same option.Gamma option.Gamma = true
is_same option.EachGamma option.EachGamma = true
is_same option.Each option.Each = true
is_same option.Number option.Number = true
is_same option.Candidates option.Candidates = true
is_same option.Ballots option.Ballots = true
is_same _ _ = false

abbrev pub is_number_kind : ValueKind → Bool
is_number_kind Id = false
is_number_kind Seed = false
is_number_kind (Number least most default) = true
is_number_kind (FreeNumber least most) = true
is_number_kind (NumberOrBest least most default) = false
is_number_kind Flag = false

abbrev pub is_number_option : OptionName → Bool
is_number_option option = is_number_kind (kind_of option)

-- the option has no value
abbrev pub is_flag : ValueKind → Bool
is_flag Flag = true
is_flag _ = false

-- a line must give the option
abbrev pub is_needed : ValueKind → Bool
is_needed Id = false
is_needed Seed = true
is_needed (Number least most default) = is_none default
is_needed (FreeNumber least most) = false
is_needed (NumberOrBest least most default) = false
is_needed Flag = true

-- the number for a line that doesn't give the option
abbrev pub default_of : ValueKind → ℕ
default_of Id = 0
default_of Seed = 0
default_of (Number least most default) = unwrap_or default 0
default_of (FreeNumber least most) = 0
default_of (NumberOrBest least most default) = default
default_of Flag = 0
