use Rattle.assertions.proofs.Sums.{assorter-is}
use Rattle.assertions.proofs.laws.assorter_is.Goals as goal

pub returns : goal.returns
returns c = assorter-is
