use Rattle.assertions.proofs.Shortest.{ends_are_one}
use Rattle.assertions.proofs.laws.ends_are_one.Goals as goal

pub returns : goal.returns
returns c = ends_are_one
