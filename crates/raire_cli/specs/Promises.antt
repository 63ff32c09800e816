-- What `run` promises, by status.
use Rattle.std.specs.Prelude.{◌≡◌, ◌⊎◌, ◌≤◌, ℕ, false, List, Option, Some, IfSome, length}
use Rattle.desk.specs.Desk.{File}
use Rattle.desk.specs.declared.served.Served.{Served}
use Rattle.irv_base.specs.Tabulation.{HasNoTie}
use Rattle.bound_search.specs.Race.{work_for}
use Rattle.ballots.specs.Ballots.{BallotFile}
use Rattle.cli_base.specs.Script.{limit}
use Rattle.cli_base.specs.Ends.{Writing}
use Rattle.cli_base.specs.Statuses.{ContestsStatuses, IsQuiet, IsUndone, Exactly, IsExact, Statuses}
use Rattle.command_line.specs.Line.{command_of, is_line}
use Rattle.command_line.specs.declared.commands.Command.{Command}
use Rattle.command_line.specs.declared.commands.Command.TheVariants.{Tabulate, Trial, Contests}
use Rattle.contest_search.specs.Contest.{candidate_count, IsElected, IsOther, IsWon}
use Rattle.search_commands.specs.Trial.{contest_of}
use Rattle.raire_cli.specs.Asks.{Asks}
use Rattle.raire_cli.specs.Answers.{asked, is_open}
use Rattle.raire_cli.specs.Held.{AreBallots}
use Rattle.raire_cli.specs.Budgets.{Suffices}
use Rattle.raire_cli.specs.Confirmation.{AsksFor}
use Rattle.raire_cli.specs.Contests.{IsRefusedAnyway}

-- The words ask for a search of a file that is held, not too long and accepted. If they give a number of cards, there are at
-- least as many cards as ballots. The contest is decided: every way of breaking its ties elects the winner. The budget has as many nodes as
-- may be needed for each candidate who didn't win, or as many sets as are needed.
pub record IsSearchable (words : List (List ℕ)) (files : List File) : Type 0 where
  pub ballots : BallotFile
  pub winner : ℕ
  pub asks : AsksFor words files ballots winner
  pub decided : IsElected ballots winner
  pub is_short : length asks.bytes ≤ limit
  pub budget : Suffices asks.search.task.budget ballots asks.won.order winner

-- If memory was found and no count of faults rose, a search like this ends with its assertions or with a reason for a full count.
abbrev pub IsComplete : Option (List File) → List (List ℕ) → Type 0 → ℕ → Writing → Writing → Type 0
IsComplete held words failed status out err =
    IfSome held (λ files. IsSearchable words files → IsQuiet failed out err →
    (status ≡ 0) ⊎ (status ≡ 5) ⊎ (status ≡ 9))

-- The words ask for a tabulation of a file that is held, not too long and accepted. Its contest is decided. No round has a tie, or the
-- budget has as many nodes as the race may need for each candidate who didn't win.
pub record IsTabulable (words : List (List ℕ)) (files : List File) : Type 0 where
  pub asks : Asks Tabulate words
  pub ballots : BallotFile
  pub are : AreBallots files asks.task.ballots asks.task.contest ballots
  pub winner : ℕ
  pub won : IsWon ballots winner
  pub decided : IsElected ballots winner
  pub budget : HasNoTie ballots.rankings won.order
      ⊎ ((c : ℕ) → IsOther ballots winner c →
      work_for (candidate_count ballots) ballots.rankings won.order c ≤ asks.task.nodes)

-- If memory was found and no count of faults rose, a tabulation like this ends with its rounds.
abbrev pub IsTabulationComplete : Option (List File) → List (List ℕ) → Type 0 → ℕ → Writing →
    Writing → Type 0
IsTabulationComplete held words failed status out err =
    IfSome held (λ files. IsTabulable words files → IsQuiet failed out err →
    (status ≡ 0) ⊎ (status ≡ 9))

-- The words ask for a trial. The budget has as many nodes as may be needed for each candidate that the tabulated order of its contest
-- doesn't elect, or as many sets as are needed.
pub record IsTriable (words : List (List ℕ)) : Type 0 where
  pub trial : Asks Trial words
  pub budget : (winner : ℕ) (won : IsWon (contest_of trial.task) winner) →
      Suffices trial.task.budget (contest_of trial.task) won.order winner

-- If memory was found and no count of faults rose, a trial like this ends with its lines or with a tie.
abbrev pub IsTrialComplete : List (List ℕ) → Type 0 → ℕ → Writing → Writing → Type 0
IsTrialComplete words failed status out err =
    IsTriable words → IsQuiet failed out err → (status ≡ 0) ⊎ (status ≡ 3) ⊎ (status ≡ 9)

-- For every command that no budget leaves open, each answer is given exactly when it is the one that the files make.
abbrev pub IsExactUnlessOpen : Option (List File) → List (List ℕ) → ℕ → Type 0
IsExactUnlessOpen held words status =
    (command : Command) → command_of words ≡ Some command → is_open command ≡ false →
    IsExact (asked words) held status

-- When each status occurs, and what the sinks took in that case.
pub record HasCause (held : Option (List File)) (words : List (List ℕ)) (failed : Type 0)
    (before after : Served) (status : ℕ) (out err : Writing) : Type 0 where
  pub by_words : Exactly 1 status (is_line words ≡ false)
  pub by_files : (Asks Contests words → ⊥) →
      Statuses (asked words) held failed before after status out err
  -- in an audit of all contests, the budget of each contest may run out
  pub by_contests : Asks Contests words →
      ContestsStatuses (asked words) held failed before after status out err
  -- but this hides no refusal other than the one that says that a drawn card has no record
  pub refused_anyway : Asks Contests words → IfSome held (λ files.
      IsRefusedAnyway words files → (status ≡ 2) ⊎ IsUndone status)
