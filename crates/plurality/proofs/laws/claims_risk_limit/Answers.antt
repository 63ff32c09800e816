use Rattle.plurality.proofs.Risks.{claims_risk_limit}
use Rattle.plurality.proofs.laws.claims_risk_limit.Goals as goal

pub returns : goal.returns
returns c = claims_risk_limit
