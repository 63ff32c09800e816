use Rattle.contest_search.proofs.SetsNeeded.{spent_by_sets_exactly}
use Rattle.contest_search.proofs.laws.spent_by_sets_exactly.Goals as goal

pub returns : goal.returns
returns c = spent_by_sets_exactly
