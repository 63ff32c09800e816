use Rattle.plurality.proofs.Winners.{won_law}
use Rattle.plurality.proofs.laws.won.Goals as goal

pub returns : goal.returns
returns c = won_law
