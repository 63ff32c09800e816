use Rattle.audit_report.proofs.Needs.{closest_claim_law}
use Rattle.audit_report.proofs.laws.closest_claim.Goals as goal

pub returns : goal.returns
returns c = closest_claim_law
