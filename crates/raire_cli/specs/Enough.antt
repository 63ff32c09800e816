-- How large a budget is enough to judge an assertion file or to adopt claims.
use Rattle.std.specs.Prelude.{◌≡◌, ◌≢◌, ℕ, List, Option, None, Some, IfSome, Ok}
use Rattle.budget.specs.declared.budget.Budget.{Budget}
use Rattle.budget.specs.declared.budget.Budget.TheVariants.{Nodes}
use Rattle.desk.specs.Desk.{File, held_bytes}
use Rattle.ballots.specs.Ballots.{BallotFile}
use Rattle.assertion_file.specs.Content.{Content, candidate_count as count_in}
use Rattle.assertion_file.specs.Reading.{assertion_file_of}
use Rattle.cover_checker.specs.Covers.{IsEnoughFor}
use Rattle.command.specs.declared.adopt.AdoptTask.{AdoptTask}
use Rattle.command_line.specs.Line.{command_of}
use Rattle.command_line.specs.declared.commands.Command.{Command}
use Rattle.command_line.specs.declared.commands.Command.TheVariants.{Adopt, Check, Trim, Open, Audit, Poll, PollEach}
use Rattle.contest_search.specs.Contest.{candidate_count}
use Rattle.raire_cli.specs.Asks.{Asks}
use Rattle.raire_cli.specs.Held.{AreBallots}

-- an assertion file, and the budget to judge it with
pub record Judging : Type 0 where
  pub assertions : List ℕ
  pub budget : Budget

-- what a command judges: a check judges its file, and so do the commands that trim a file, open a session, start a round or hold a poll,
-- before they do so
abbrev pub judging_of : Command → Option Judging
judging_of (Check task) = Some (record { assertions = task.assertions; budget = task.budget })
judging_of (Trim task) = Some (record { assertions = task.assertions; budget = task.budget })
judging_of (Open task) = Some (record { assertions = task.assertions; budget = task.budget })
judging_of (Audit task) = Some (record { assertions = task.assertions; budget = task.budget })
judging_of (Poll task) = Some (record { assertions = task.assertions; budget = Nodes task.nodes })
judging_of (PollEach task) =
    Some (record { assertions = task.assertions; budget = Nodes task.nodes })
judging_of _ = None

-- if the assertion file has n candidates, the budget has at least 2 * (n - 1)! nodes, or at least 2^n - 3 sets
abbrev pub AreEnough : List File → Judging → Type 0
AreEnough files judging =
    (bytes : List ℕ) (file : Content) → held_bytes judging.assertions files ≡ Some bytes →
    assertion_file_of bytes ≡ Ok file →
    IsEnoughFor (count_in file) judging.budget

-- if the contest has n candidates, the budget of the adoption has at least 2 * (n - 1)! nodes, or at least 2^n - 3 sets
abbrev pub AreEnoughToAdopt : List File → AdoptTask → Type 0
AreEnoughToAdopt files task =
    (ballots : BallotFile) → AreBallots files task.ballots task.contest ballots →
    IsEnoughFor (candidate_count ballots) task.budget

-- ---- what `run` promises

-- over these files
pub record IsNeverSpentOver (files : List File) (words : List (List ℕ)) (status : ℕ) : Type 0 where
  pub judged : (command : Command) (judging : Judging) → command_of words ≡ Some command →
      judging_of command ≡ Some judging → AreEnough files judging → status ≢ 4
  pub adopted : (adopt : Asks Adopt words) → AreEnoughToAdopt files adopt.task → status ≢ 4

-- With enough nodes or sets a budget doesn't run out.
abbrev pub IsNeverSpent : Option (List File) → List (List ℕ) → ℕ → Type 0
IsNeverSpent held words status = IfSome held (λ files. IsNeverSpentOver files words status)
