use Rattle.audit_laws.proofs.FalseClaims.{counted_risk_limit}
use Rattle.audit_laws.proofs.laws.counted_risk_limit.Goals as goal

pub returns : goal.returns
returns c = counted_risk_limit
