use Rattle.set_walk.proofs.Few.{standing_are_fewer}
use Rattle.set_walk.proofs.laws.standing_are_few.Goals as goal

pub returns : goal.returns
returns c = standing_are_fewer
