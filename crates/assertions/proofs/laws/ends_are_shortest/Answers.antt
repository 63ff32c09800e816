use Rattle.assertions.proofs.Shortest.{ends_are_shortest}
use Rattle.assertions.proofs.laws.ends_are_shortest.Goals as goal

pub returns : goal.returns
returns c = ends_are_shortest
