use Rattle.trimmer.proofs.Enough.{trim_by_sets_is_never_spent}
use Rattle.trimmer.proofs.laws.trim_by_sets_is_never_spent.Goals as goal

pub returns : goal.returns
returns c = trim_by_sets_is_never_spent
