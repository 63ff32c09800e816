use Rattle.std.proofs.Common.{rules, append_assoc}
use Rattle.audit_report.proofs.session.add_claim.Goals as goal

pub returns : goal.returns
returns c = search (rules, append_assoc)
