use Rattle.bound_search.proofs.Counting.{most_expanded}
use Rattle.bound_search.proofs.laws.most_expanded.Goals as goal

pub returns : goal.returns
returns c = most_expanded
