use Rattle.assertions.proofs.Decided.{nothing_against_possible}
use Rattle.assertions.proofs.laws.nothing_against_possible.Goals as goal

pub returns : goal.returns
returns c = nothing_against_possible
