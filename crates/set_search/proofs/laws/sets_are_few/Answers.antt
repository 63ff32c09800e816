use Rattle.set_search.proofs.Deciding.{sets_are_few}
use Rattle.set_search.proofs.laws.sets_are_few.Goals as goal

pub returns : goal.returns
returns c = sets_are_few
