use Rattle.bound_search.proofs.Counting.{closed_above}
use Rattle.bound_search.proofs.laws.closed_above.Goals as goal

pub returns : goal.returns
returns c = closed_above
