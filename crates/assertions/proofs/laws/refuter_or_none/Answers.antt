use Rattle.assertions.proofs.Lows.{refuter_is_none}
use Rattle.assertions.proofs.Refuters.{refuter_or_none}
use Rattle.assertions.proofs.laws.refuter_or_none.Goals as goal

pub returns : goal.returns
returns c = λ n records suffix. (refuter_or_none n records suffix, refuter_is_none n records suffix)
