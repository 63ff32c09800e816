use Rattle.certifier.proofs.Together.{enough_nodes}
use Rattle.certifier.proofs.laws.enough_nodes.Goals as goal

pub returns : goal.returns
returns c = enough_nodes
