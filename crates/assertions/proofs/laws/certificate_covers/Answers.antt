use Rattle.assertions.proofs.Certificates.{certificate_covers}
use Rattle.assertions.proofs.laws.certificate_covers.Goals as goal

pub returns : goal.returns
returns c = certificate_covers
