use Rattle.audit_laws.proofs.CleanDraws.{needs_no_more}
use Rattle.audit_laws.proofs.laws.needs_no_more.Goals as goal

pub returns : goal.returns
returns c = needs_no_more
