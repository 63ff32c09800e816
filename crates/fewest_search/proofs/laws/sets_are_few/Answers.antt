use Rattle.fewest_search.proofs.Needs.{sets_are_few}
use Rattle.fewest_search.proofs.laws.sets_are_few.Goals as goal

pub returns : goal.returns
returns c = sets_are_few
