-- Two calls with the same words, or with words that differ only in the number of workers, over desks that hold the same files.
use Rattle.std.specs.Prelude.{◌≡◌, ◌≢◌, ℕ, true, List, Some, option_map}
use Rattle.desk.specs.Count.{Rose}
use Rattle.desk.specs.Desk.{File, held_bytes}
use Rattle.cli_base.specs.Ends.{Writing, Took}
use Rattle.cli_base.specs.Statuses.{IsAnswered, IsQuiet}
use Rattle.command_line.specs.Line.{command_of}
use Rattle.command_line.specs.declared.commands.Command.{Command}
use Rattle.command_line.specs.declared.commands.Command.TheVariants.{Search, SearchFewest, Trial, Contests}
use Rattle.raire_cli.specs.Asks.{Asks}
use Rattle.raire_cli.specs.Answers.{asked, has_choice, is_open}
use Rattle.raire_cli.specs.Contests.{HaveNodes}

-- what is seen of a call of `run`: the desk's count of faults before and after it, its status, and what its sinks took
pub record Call : Type 0 where
  pub faults_before : ℕ
  pub faults_after : ℕ
  pub status : ℕ
  pub out : Writing
  pub err : Writing

abbrev pub Failed : Call → Type 0
Failed call = Rose call.faults_before call.faults_after

-- the words ask for a command that its budget may leave open: a search, a tabulation, a trial or an audit of all contests, but not one with
-- a number of sets
pub record MayBeSpent (words : List (List ℕ)) : Type 0 where
  pub command : Command
  pub asked_for : command_of words ≡ Some command
  pub is_open : is_open command ≡ true

-- the words ask for a command that has a choice: a search for the fewest NENs
pub record MayChoose (words : List (List ℕ)) : Type 0 where
  pub command : Command
  pub asked_for : command_of words ≡ Some command
  pub has_choice : has_choice command ≡ true

-- The call had these words, over a desk that holds these files. Nothing failed in it, and memory was found. It isn't a search, a tabulation
-- or a trial that ran out of its budget of nodes, nor an audit of all contests that might run out of nodes in one of them, nor a search for
-- the fewest NENs, which may have several results.
pub record IsSettled (words : List (List ℕ)) (files : List File) (call : Call) : Type 0 where
  pub answer : IsAnswered (asked words) (Some files) (Failed call) call.status call.out call.err
  pub quiet : IsQuiet (Failed call) call.out call.err
  pub memory : call.status ≢ 9
  pub unspent : MayBeSpent words → call.status ≢ 4
  pub no_choice : MayChoose words → ⊥
  -- an audit of all contests has as many nodes as may be needed in each contest
  pub suffice : (asks : Asks Contests words) → HaveNodes asks.task files

-- each name has the same bytes in both lists, or is in neither
abbrev pub HoldTheSame : List File → List File → Type 0
HoldTheSame files others = (name : List ℕ) → held_bytes name files ≡ held_bytes name others

-- both calls have the same status, and their sinks took the same texts
pub record AreTheSame (first second : Call) : Type 0 where
  pub status : first.status ≡ second.status
  pub to_out : List ℕ
  pub to_err : List ℕ
  pub first_out : Took first.out to_out
  pub first_err : Took first.err to_err
  pub second_out : Took second.out to_out
  pub second_err : Took second.err to_err

-- ---- words that differ in the number of workers

-- the command with this number of workers, if it has one
abbrev pub with_workers : ℕ → Command → Command
with_workers workers (Search task) = Search (record task { workers = workers })
with_workers workers (SearchFewest task) = SearchFewest (record task { workers = workers })
with_workers workers (Trial task) = Trial (record task { workers = workers })
with_workers workers (Contests task) = Contests (record task { workers = workers })
with_workers workers command = command

-- both ask for the same command, except for its number of workers, or neither is a line
abbrev pub DifferInWorkers : List (List ℕ) → List (List ℕ) → Type 0
DifferInWorkers words others =
    (workers : ℕ) × (command_of others ≡ option_map (with_workers workers) (command_of words))

-- ---- the laws

abbrev pub WorkersSameAnswer : Type 0
WorkersSameAnswer =
    (words others : List (List ℕ)) (files more : List File) (first second : Call) →
    DifferInWorkers words others → HoldTheSame files more → IsSettled words files first →
    IsSettled others more second → AreTheSame first second

abbrev pub SameFilesSameAnswer : Type 0
SameFilesSameAnswer =
    (words : List (List ℕ)) (files others : List File) (first second : Call) →
    HoldTheSame files others → IsSettled words files first →
    IsSettled words others second → AreTheSame first second
