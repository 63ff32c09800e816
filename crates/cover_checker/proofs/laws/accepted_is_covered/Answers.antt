use Rattle.cover_checker.proofs.Exactly.{accepted-covered}
use Rattle.cover_checker.proofs.laws.accepted_is_covered.Goals as goal

pub returns : goal.returns
returns c = accepted-covered
