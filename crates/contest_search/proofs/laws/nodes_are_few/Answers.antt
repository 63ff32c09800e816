use Rattle.contest_search.proofs.Nodes.{nodes_are_few}
use Rattle.contest_search.proofs.laws.nodes_are_few.Goals as goal

pub returns : goal.returns
returns c = nodes_are_few
