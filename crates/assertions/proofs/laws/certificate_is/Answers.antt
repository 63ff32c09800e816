use Rattle.assertions.proofs.Ones.{certificate_is}
use Rattle.assertions.proofs.laws.certificate_is.Goals as goal

pub returns : goal.returns
returns c = certificate_is
