use Rattle.adoption.proofs.Adopting.{adopted_exactly}
use Rattle.adoption.proofs.laws.adopted_exactly.Goals as goal

pub returns : goal.returns
returns c = λ budget ballots claims are sound. adopted_exactly budget ballots claims are sound
