use Rattle.km_risk.proofs.RiskBounds.{at_most_one_law}
use Rattle.km_risk.proofs.laws.at_most_one.Goals as goal

pub returns : goal.returns
returns c = at_most_one_law
