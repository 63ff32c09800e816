use Rattle.assertions.proofs.Lows.{low_of_none}
use Rattle.assertions.proofs.laws.low_of_none.Goals as goal

pub returns : goal.returns
returns c = low_of_none
