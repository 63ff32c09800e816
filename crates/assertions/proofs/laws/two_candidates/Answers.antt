use Rattle.assertions.proofs.Two.{two_certificate}
use Rattle.assertions.proofs.laws.two_candidates.Goals as goal

pub returns : goal.returns
returns c = two_certificate
