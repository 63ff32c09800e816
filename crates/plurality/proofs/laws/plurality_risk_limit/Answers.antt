use Rattle.plurality.proofs.Risks.{plurality_risk_limit}
use Rattle.plurality.proofs.laws.plurality_risk_limit.Goals as goal

pub returns : goal.returns
returns c = plurality_risk_limit
