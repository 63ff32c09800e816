use Rattle.assertions.proofs.Steps.{low_of_more}
use Rattle.assertions.proofs.laws.low_of_more.Goals as goal

pub returns : goal.returns
returns c = low_of_more
