use Rattle.assertions.proofs.Steps.{frontier_bounds}
use Rattle.assertions.proofs.laws.frontier_bounds.Goals as goal

pub returns : goal.returns
returns c = frontier_bounds
