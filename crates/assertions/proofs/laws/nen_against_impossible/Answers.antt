use Rattle.assertions.proofs.Decided.{nen_against_impossible}
use Rattle.assertions.proofs.laws.nen_against_impossible.Goals as goal

pub returns : goal.returns
returns c = nen_against_impossible
