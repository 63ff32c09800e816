-- Which file the call names if the desk fails.
use Rattle.std.specs.Prelude.{◌≡◌, ℕ, List, Option, Some, ⊤}
use Rattle.desk.specs.Desk.{File}
use Rattle.desk.specs.declared.served.Served.{Served}
use Rattle.cli_base.specs.Ends.{Writing}
use Rattle.cli_base.specs.Statuses.{IsReadFault}
use Rattle.command.specs.declared.check.CheckTask.{CheckTask}
use Rattle.command_line.specs.Line.{command_of}
use Rattle.command_line.specs.declared.commands.Command.TheVariants.{Check}
use Rattle.raire_cli.specs.Answers.{asked}

-- If a desk that has begun no file before fails at the second file of a check, the assertion file is named, not the ballot file.
abbrev pub SecondIsNamed : Type 0
SecondIsNamed =
    (words : List (List ℕ)) (task : CheckTask) → command_of words ≡ Some (Check task) →
    (held : Option (List File)) (before after : Served) (out err : Writing) →
    before.begins ≡ 0 → after.begins ≡ 2 →
    (fault : IsReadFault (asked words) held ⊤ before after out err) → fault.name ≡ task.assertions
