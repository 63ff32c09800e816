use Rattle.audit_laws.proofs.Published.{risk_limit}
use Rattle.audit_laws.proofs.laws.risk_limit.Goals as goal

pub returns : goal.returns
returns c = risk_limit
