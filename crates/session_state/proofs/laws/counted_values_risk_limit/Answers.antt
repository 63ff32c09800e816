use Rattle.session_state.proofs.RiskOfValues.{counted_values_risk_limit}
use Rattle.session_state.proofs.laws.counted_values_risk_limit.Goals as goal

pub returns : goal.returns
returns c = counted_values_risk_limit
