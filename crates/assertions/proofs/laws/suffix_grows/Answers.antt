use Rattle.assertions.proofs.Steps.{suffix_grows}
use Rattle.assertions.proofs.laws.suffix_grows.Goals as goal

pub returns : goal.returns
returns c = suffix_grows
