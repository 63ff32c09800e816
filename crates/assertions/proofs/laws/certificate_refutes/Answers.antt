use Rattle.assertions.proofs.Shortest.{certificate_refutes}
use Rattle.assertions.proofs.laws.certificate_refutes.Goals as goal

pub returns : goal.returns
returns c = certificate_refutes
