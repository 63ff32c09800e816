use Rattle.assertions.proofs.Decided.{first_over_all}
use Rattle.assertions.proofs.laws.first_over_all.Goals as goal

pub returns : goal.returns
returns c = first_over_all
