use Rattle.contest_search.proofs.FewestSets.{spent_fewest_exactly}
use Rattle.contest_search.proofs.laws.spent_fewest_exactly.Goals as goal

pub returns : goal.returns
returns c = spent_fewest_exactly
