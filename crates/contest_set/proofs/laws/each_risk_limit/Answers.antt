use Rattle.contest_set.proofs.RiskLimit.{each_risk_limit}
use Rattle.contest_set.proofs.laws.each_risk_limit.Goals as goal

pub returns : goal.returns
returns c = each_risk_limit
