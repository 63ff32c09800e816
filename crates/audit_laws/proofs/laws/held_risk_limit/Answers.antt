use Rattle.audit_laws.proofs.Published.{held_risk_limit}
use Rattle.audit_laws.proofs.laws.held_risk_limit.Goals as goal

pub returns : goal.returns
returns c = held_risk_limit
