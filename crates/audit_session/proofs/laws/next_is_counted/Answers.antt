use Rattle.audit_session.proofs.IsCounted.{next_is_counted}
use Rattle.audit_session.proofs.laws.next_is_counted.Goals as goal

pub returns : goal.returns
returns c = next_is_counted
