-- What the checker says of the assertions of a file, if the nodes are enough.
use Rattle.std.specs.Prelude.{Option, None, Some, IsTrue, ⊤}
use Rattle.irv_base.specs.Orders.{is_order}
use Rattle.assertion_file.specs.Content.{Content, candidate_count}
use Rattle.cover_checker.specs.declared.cover.Verdict.{Verdict as Said}
use Rattle.cover_checker.specs.declared.cover.Verdict.TheVariants.{Covered, Stands}
use Rattle.cli_base.specs.Outcome.{Verdict}
use Rattle.poll_command.specs.Poll.{standing}

-- an order that isn't refuted is an order of the file's candidates
abbrev pub IsOfFile : Content → Said → Type 0
IsOfFile file Covered = ⊤
IsOfFile file (Stands order) = IsTrue (is_order (candidate_count file) order)

-- how the call ends if an order isn't refuted
abbrev pub unless_stands : Content → Said → Option Verdict
unless_stands file Covered = None
unless_stands file (Stands order) = Some (standing file order)
