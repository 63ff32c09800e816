use Rattle.std.proofs.Common.{arith}
use Rattle.set_search.proofs.laws.never_both.Goals as goal

pub returns : goal.returns
returns c = λ n sets margin records tab order x f g. let few = f.within in let above = g.above in omega (arith, few, above)
