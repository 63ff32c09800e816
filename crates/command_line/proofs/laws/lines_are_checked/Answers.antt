use Rattle.command_line.proofs.Checked.{are_checked}
use Rattle.command_line.proofs.laws.lines_are_checked.Goals as goal

pub returns : goal.returns
returns c = are_checked
