use Rattle.assertions.proofs.Certificates.{certificate_is_true}
use Rattle.assertions.proofs.laws.certificate_is_true.Goals as goal

pub returns : goal.returns
returns c = certificate_is_true
