use Rattle.assertions.proofs.Parts.{refutes_more}
use Rattle.assertions.proofs.laws.refutes_longer.Goals as goal

pub returns : goal.returns
returns c = λ a suffix c. refutes_more a c suffix
