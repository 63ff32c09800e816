use Rattle.assertions.proofs.Decided.{decided_is_positive}
use Rattle.assertions.proofs.laws.decided_is_positive.Goals as goal

pub returns : goal.returns
returns c = decided_is_positive
