use Rattle.km_risk.proofs.RiskBounds.{not_below_law}
use Rattle.km_risk.proofs.laws.not_below.Goals as goal

pub returns : goal.returns
returns c = not_below_law
