use Rattle.km_risk.proofs.AsDrawn.{as_drawn_risk_limit_law}
use Rattle.km_risk.proofs.as_drawn_laws.as_drawn_risk_limit.Goals as goal

pub returns : goal.returns
returns c = as_drawn_risk_limit_law
