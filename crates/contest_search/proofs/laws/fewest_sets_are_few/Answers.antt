use Rattle.contest_search.proofs.FewestSets.{fewest_sets_are_few}
use Rattle.contest_search.proofs.laws.fewest_sets_are_few.Goals as goal

pub returns : goal.returns
returns c = fewest_sets_are_few
