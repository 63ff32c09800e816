use Rattle.session_state.proofs.RiskOfValues.{values_risk_limit}
use Rattle.session_state.proofs.laws.values_risk_limit.Goals as goal

pub returns : goal.returns
returns c = values_risk_limit
