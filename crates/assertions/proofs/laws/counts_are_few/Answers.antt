use Rattle.assertions.proofs.Few.{counts_are_few}
use Rattle.assertions.proofs.laws.counts_are_few.Goals as goal

pub returns : goal.returns
returns c = counts_are_few
