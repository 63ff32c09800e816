-- What it means for a trim to print an assertion file.
use Rattle.std.specs.Prelude.{◌≡◌, ℕ, List, Option, IfSome, Ok}
use Rattle.desk.specs.Desk.{File}
use Rattle.ballots.specs.Ballots.{BallotFile}
use Rattle.assertion_file.specs.Content.{Content}
use Rattle.assertion_file.specs.Reading.{assertion_file_of}
use Rattle.assertion_file.specs.Text.{assertion_file_text, told_of}
use Rattle.cover_checker.specs.Checks.{IsAnswer}
use Rattle.cover_checker.specs.declared.checked.Checked.TheVariants.{Accepted}
use Rattle.trimmer.specs.Laws.{IsIrredundant, IsPartOf, IsPlannedAlike}
use Rattle.trimmer.specs.Trimmed.{margin_left}
use Rattle.cli_base.specs.Ends.{Writing, Took}
use Rattle.command_line.specs.declared.commands.Command.TheVariants.{Trim}
use Rattle.raire_cli.specs.Asks.{Asks}
use Rattle.raire_cli.specs.Held.{AreChecked}

-- this is the assertion file that the words name, trimmed
pub record IsTrimmedOf (words : List (List ℕ)) (files : List File) (left : Content) : Type 0 where
  pub asks : Asks Trim words
  pub ballots : BallotFile
  pub file : Content
  pub are : AreChecked files asks.task.ballots asks.task.assertions asks.task.contest ballots file
  -- the printed file says the same when it is read
  pub reads_back : assertion_file_of (assertion_file_text left) ≡ Ok left
  -- a check of the same ballots with the same budget accepts the file that was read
  pub was_accepted : IsAnswer asks.task.budget ballots file (Ok Accepted)
  -- and the file that is left
  pub accepted : IsAnswer asks.task.budget ballots left (Ok Accepted)
  -- its claims are among those that were read, in the same order and each with its draws; the rest of the file is the same, except that the
  -- margin of a file without an order is the smallest margin of the claims that are left
  pub part : IsPartOf left.claims file.claims
  pub draws : IsPartOf (told_of left.plan left.claims) (told_of file.plan file.claims)
  pub terms : IsPlannedAlike file.plan left.plan
  pub same : left ≡ record file {
    margin = margin_left file left.claims;
    claims = left.claims;
    plan = left.plan;
  }
  -- each of its claims is needed
  pub needed : IsIrredundant left

-- ---- what `run` promises

-- Status 0 of a trim: `out` has the assertion file that the words name, without the claims that can be removed.
abbrev pub IsTrimmed : Option (List File) → List (List ℕ) → ℕ → Writing → Type 0
IsTrimmed held words status out = IfSome held (λ files. Asks Trim words → status ≡ 0 →
    (left : Content) × IsTrimmedOf words files left × Took out (assertion_file_text left))
