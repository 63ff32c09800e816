use Rattle.assertions.proofs.Scored.{score_of_more}
use Rattle.assertions.proofs.laws.score_of_more.Goals as goal

pub returns : goal.returns
returns c = score_of_more
