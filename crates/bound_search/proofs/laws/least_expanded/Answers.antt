use Rattle.bound_search.proofs.Counting.{least_expanded}
use Rattle.bound_search.proofs.laws.least_expanded.Goals as goal

pub returns : goal.returns
returns c = least_expanded
