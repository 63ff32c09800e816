use Rattle.km_risk.proofs.CleanDraws.{larger_margin_law}
use Rattle.km_risk.proofs.laws.larger_margin.Goals as goal

pub returns : goal.returns
returns c = larger_margin_law
