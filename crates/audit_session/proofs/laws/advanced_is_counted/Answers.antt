use Rattle.audit_session.proofs.IsCounted.{advanced_is_counted}
use Rattle.audit_session.proofs.laws.advanced_is_counted.Goals as goal

pub returns : goal.returns
returns c = advanced_is_counted
