use Rattle.cover_checker.proofs.Exactly.{accepted_exactly}
use Rattle.cover_checker.proofs.laws.accepted_exactly.Goals as goal

pub returns : goal.returns
returns c = accepted_exactly
