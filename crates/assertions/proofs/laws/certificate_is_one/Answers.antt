use Rattle.assertions.proofs.Ones.{certificate_is_one}
use Rattle.assertions.proofs.laws.certificate_is_one.Goals as goal

pub returns : goal.returns
returns c = certificate_is_one
