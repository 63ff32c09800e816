use Rattle.km_risk.proofs.RiskBounds.{not_far_above_law}
use Rattle.km_risk.proofs.laws.not_far_above.Goals as goal

pub returns : goal.returns
returns c = not_far_above_law
