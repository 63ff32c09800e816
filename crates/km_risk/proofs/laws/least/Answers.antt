use Rattle.km_risk.proofs.CleanDraws.{least_law}
use Rattle.km_risk.proofs.laws.least.Goals as goal

pub returns : goal.returns
returns c = least_law
