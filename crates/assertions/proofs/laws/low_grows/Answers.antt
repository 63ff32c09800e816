use Rattle.assertions.proofs.Lows.{low_grows}
use Rattle.assertions.proofs.laws.low_grows.Goals as goal

pub returns : goal.returns
returns c = low_grows
