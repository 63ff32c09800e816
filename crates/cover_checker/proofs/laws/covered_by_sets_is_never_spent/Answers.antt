use Rattle.cover_checker.proofs.Enough.{sets_never_spent}
use Rattle.cover_checker.proofs.laws.covered_by_sets_is_never_spent.Goals as goal

pub returns : goal.returns
returns c = sets_never_spent
