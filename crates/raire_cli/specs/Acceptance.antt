-- What it means for a check to accept an assertion file.
use Rattle.std.specs.Prelude.{◌≡◌, ℕ, List, Option, IfSome}
use Rattle.desk.specs.Desk.{File}
use Rattle.ballots.specs.Ballots.{BallotFile}
use Rattle.assertion_file.specs.Content.{Content}
use Rattle.cover_checker.specs.Holds.{Holds}
use Rattle.cli_base.specs.Ends.{Writing, Took}
use Rattle.command_line.specs.declared.commands.Command.TheVariants.{Check}
use Rattle.check_command.specs.Check.{yes_text}
use Rattle.raire_cli.specs.Asks.{Asks}
use Rattle.raire_cli.specs.Held.{AreChecked}

-- this is what the assertion file that the words name says, and it holds for the ballots of the contest that they ask about
pub record HoldsAsked (words : List (List ℕ)) (files : List File) (file : Content) : Type 0 where
  pub asks : Asks Check words
  pub ballots : BallotFile
  pub are : AreChecked files asks.task.ballots asks.task.assertions asks.task.contest ballots file
  pub holds : Holds ballots file

-- ---- what `run` promises

-- Status 0 of a check: its assertion file holds for the ballots. `out` has `yes`, the number of assertions in the file and its margin. If
-- the file has no order, `out` also says that this margin isn't claimed to be the best one.
abbrev pub IsUpheld : Option (List File) → List (List ℕ) → ℕ → Writing → Type 0
IsUpheld held words status out = IfSome held (λ files. Asks Check words → status ≡ 0 →
    (file : Content) × HoldsAsked words files file × Took out (yes_text file))
