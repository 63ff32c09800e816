use Rattle.assertions.proofs.Sums.{assorter_sums}
use Rattle.assertions.proofs.laws.assorter_sums.Goals as goal

pub returns : goal.returns
returns c = assorter_sums
