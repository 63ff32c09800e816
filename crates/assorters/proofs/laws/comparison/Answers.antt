use Rattle.assorters.proofs.Comparison.{comparison_law}
use Rattle.assorters.proofs.laws.comparison.Goals as goal

pub returns : goal.returns
returns c = comparison_law
