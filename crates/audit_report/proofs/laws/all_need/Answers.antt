use Rattle.audit_report.proofs.Needs.{all_need_law}
use Rattle.audit_report.proofs.laws.all_need.Goals as goal

pub returns : goal.returns
returns c = all_need_law
