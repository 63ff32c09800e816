use Rattle.assertions.proofs.Certificates.{certificate_reaches_best}
use Rattle.assertions.proofs.laws.certificate_reaches_best.Goals as goal

pub returns : goal.returns
returns c = certificate_reaches_best
