use Rattle.audit_laws.proofs.Possible.{each_elects_another}
use Rattle.audit_laws.proofs.laws.each_elects_another.Goals as goal

pub returns : goal.returns
returns c = each_elects_another
