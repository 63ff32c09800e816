use Rattle.contests_command.proofs.Alone.{said_alone}
use Rattle.contests_command.proofs.laws.said_alone.Goals as goal

pub returns : goal.returns
returns c = said_alone
