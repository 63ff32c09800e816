use Rattle.command_line.proofs.OneLine.{are_of_one}
use Rattle.command_line.proofs.laws.lines_are_of_one.Goals as goal

pub returns : goal.returns
returns c = are_of_one
