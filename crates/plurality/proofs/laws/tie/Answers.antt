use Rattle.plurality.proofs.Winners.{tie_law}
use Rattle.plurality.proofs.laws.tie.Goals as goal

pub returns : goal.returns
returns c = tie_law
