use Rattle.assertions.proofs.Scored.{score_of_none}
use Rattle.assertions.proofs.laws.score_of_none.Goals as goal

pub returns : goal.returns
returns c = score_of_none
