use Rattle.assertions.proofs.Lows.{low-refuter, low_is}
use Rattle.assertions.proofs.laws.low_is_greatest.Goals as goal

pub returns : goal.returns
returns c = λ n records suffix. (low-refuter n records suffix, λ h. let (a, g) = low_is n records suffix h in (a, g.proper, g.refuting, g.reached))
