use Rattle.cover_checker.proofs.Certified.{certificate_is_accepted}
use Rattle.cover_checker.proofs.laws.certificate_is_accepted.Goals as goal

pub returns : goal.returns
returns c = certificate_is_accepted
