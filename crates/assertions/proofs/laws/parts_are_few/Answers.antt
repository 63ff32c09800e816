use Rattle.assertions.proofs.Few.{parts_are_few}
use Rattle.assertions.proofs.laws.parts_are_few.Goals as goal

pub returns : goal.returns
returns c = parts_are_few
