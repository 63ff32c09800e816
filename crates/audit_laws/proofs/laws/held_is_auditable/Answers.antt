use Rattle.audit_laws.proofs.Published.{held_is_auditable}
use Rattle.audit_laws.proofs.laws.held_is_auditable.Goals as goal

pub returns : goal.returns
returns c = held_is_auditable
