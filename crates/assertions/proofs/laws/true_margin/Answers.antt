use Rattle.assertions.proofs.Sums.{true_margin_is}
use Rattle.assertions.proofs.laws.true_margin.Goals as goal

pub returns : goal.returns
returns c = true_margin_is
