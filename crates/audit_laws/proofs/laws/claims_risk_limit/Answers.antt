use Rattle.audit_laws.proofs.FalseClaims.{claims_risk_limit}
use Rattle.audit_laws.proofs.laws.claims_risk_limit.Goals as goal

pub returns : goal.returns
returns c = claims_risk_limit
