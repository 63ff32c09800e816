use Rattle.plurality.proofs.Risks.{counted_risk_limit}
use Rattle.plurality.proofs.laws.counted_risk_limit.Goals as goal

pub returns : goal.returns
returns c = counted_risk_limit
