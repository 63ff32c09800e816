use Rattle.cover_checker.proofs.Enough.{never_spent}
use Rattle.cover_checker.proofs.laws.covered_is_never_spent.Goals as goal

pub returns : goal.returns
returns c = never_spent
