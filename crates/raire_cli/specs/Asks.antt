-- What the words ask for.
use Rattle.std.specs.Prelude.{◌≡◌, ℕ, List, Some}
use Rattle.command_line.specs.Line.{command_of}
use Rattle.command_line.specs.declared.commands.Command.{Command}

-- the words ask for this command, with some task
pub record Asks {Task : Type 0} (command : Task → Command) (words : List (List ℕ)) : Type 0 where
  pub task : Task
  pub asked : command_of words ≡ Some (command task)
