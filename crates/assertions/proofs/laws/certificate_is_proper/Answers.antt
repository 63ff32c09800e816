use Rattle.assertions.proofs.Certificates.{certificate_is_proper}
use Rattle.assertions.proofs.laws.certificate_is_proper.Goals as goal

pub returns : goal.returns
returns c = certificate_is_proper
