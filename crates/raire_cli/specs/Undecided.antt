-- What it means that different ways of breaking a contest's ties elect different candidates. This is the meaning of status 3.
use Rattle.std.specs.Prelude.{◌≡◌, ◌⊎◌, ℕ, List, Option, Some, IfSome, IsTrue}
use Rattle.desk.specs.Desk.{File}
use Rattle.ballots.specs.Ballots.{BallotFile}
use Rattle.cli_base.specs.Ends.{Writing, Took}
use Rattle.cli_base.specs.Statuses.{IsQuiet}
use Rattle.command_line.specs.Line.{command_of}
use Rattle.command_line.specs.declared.commands.Command.{Command}
use Rattle.command_line.specs.declared.commands.Command.TheVariants.{Search, SearchFewest, Tabulate, Trial}
use Rattle.contest_search.specs.Contest.{IsUndecided}
use Rattle.search_commands.specs.Ends.{HasTie}
use Rattle.search_commands.specs.Search.{has_cards}
use Rattle.search_commands.specs.Trial.{contest_of}
use Rattle.raire_cli.specs.Held.{AreBallots}
use Rattle.raire_cli.specs.Budgets.{SufficesForTie, budget_of}
use Rattle.raire_cli.specs.PluralityTies.{TellsPluralityTie}

-- ---- the contest of a command

-- the command is a search, a tabulation or a trial, and asks who won this contest; if a search is given a number of cards, they are enough
abbrev pub IsAbout : List File → Command → BallotFile → Type 0
IsAbout files (Search task) ballots =
    AreBallots files task.ballots task.contest ballots × IsTrue (has_cards task.plan ballots)
IsAbout files (SearchFewest task) ballots =
    AreBallots files task.ballots task.contest ballots × IsTrue (has_cards task.plan ballots)
IsAbout files (Tabulate task) ballots = AreBallots files task.ballots task.contest ballots
IsAbout files (Trial task) ballots = ballots ≡ contest_of task
IsAbout files _ ballots = ⊥

-- the words ask who won this contest
pub record AsksAbout (words : List (List ℕ)) (files : List File)
    (ballots : BallotFile) : Type 0 where
  pub command : Command
  pub asked : command_of words ≡ Some command
  pub about : IsAbout files command ballots

-- ---- what `run` promises

-- this text is the first tie of the contest that the words ask about, which isn't decided
pub record TellsTie (words : List (List ℕ)) (files : List File) (text : List ℕ) : Type 0 where
  pub ballots : BallotFile
  pub asks : AsksAbout words files ballots
  pub undecided : IsUndecided ballots
  pub tie : HasTie ballots text

-- Status 3: different ways of breaking the contest's ties elect different candidates, and its first tie is printed. For a plurality
-- contest, the candidates who share the greatest number of first preferences are printed.
abbrev pub IsTied : Option (List File) → List (List ℕ) → ℕ → Writing → Type 0
IsTied held words status out =
    IfSome held (λ files. status ≡ 3 →
    (text : List ℕ) × (TellsTie words files text ⊎ TellsPluralityTie words files text)
    × Took out text)

-- The words ask who won a contest that isn't decided, and the budget is large enough to find that out.
pub record AsksUndecided (words : List (List ℕ)) (files : List File) : Type 0 where
  pub ballots : BallotFile
  pub asks : AsksAbout words files ballots
  pub undecided : IsUndecided ballots
  pub budget : SufficesForTie (budget_of asks.command) ballots

-- If memory was found and no count of faults rose, a call like this ends with the first tie.
abbrev pub IsTieComplete : Option (List File) → List (List ℕ) → Type 0 → ℕ → Writing →
    Writing → Type 0
IsTieComplete held words failed status out err =
    IfSome held (λ files. AsksUndecided words files → IsQuiet failed out err →
    (status ≡ 3) ⊎ (status ≡ 9))
