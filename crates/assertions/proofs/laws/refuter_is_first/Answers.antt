use Rattle.assertions.proofs.Refuters.{refuter-first, refuter-only}
use Rattle.assertions.proofs.laws.refuter_is_first.Goals as goal

pub returns : goal.returns
returns c = λ n records suffix a. (refuter-first n records suffix a, refuter-only n records suffix a)
