use Rattle.contests_command.proofs.OneEnd.{unspent}
use Rattle.contests_command.proofs.laws.enough_nodes.Goals as goal

pub returns : goal.returns
returns c = unspent
