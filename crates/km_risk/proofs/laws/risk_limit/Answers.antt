use Rattle.km_risk.proofs.Confirmed.{risk_limit_law}
use Rattle.km_risk.proofs.laws.risk_limit.Goals as goal

pub returns : goal.returns
returns c = risk_limit_law
