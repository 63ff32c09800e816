use Rattle.contest_search.proofs.SetsNeeded.{sets_are_few}
use Rattle.contest_search.proofs.laws.sets_are_few.Goals as goal

pub returns : goal.returns
returns c = sets_are_few
