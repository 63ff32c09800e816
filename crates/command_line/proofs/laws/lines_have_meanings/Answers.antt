use Rattle.command_line.proofs.Checked.{have_meanings}
use Rattle.command_line.proofs.laws.lines_have_meanings.Goals as goal

pub returns : goal.returns
returns c = have_meanings
