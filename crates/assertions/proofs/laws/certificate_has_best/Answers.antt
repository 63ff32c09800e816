use Rattle.assertions.proofs.Certificates.{certificate_has_best}
use Rattle.assertions.proofs.laws.certificate_has_best.Goals as goal

pub returns : goal.returns
returns c = certificate_has_best
