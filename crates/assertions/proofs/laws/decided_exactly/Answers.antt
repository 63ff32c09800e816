use Rattle.assertions.proofs.Decided.{decided_exactly}
use Rattle.assertions.proofs.laws.decided_exactly.Goals as goal

pub returns : goal.returns
returns c = decided_exactly
