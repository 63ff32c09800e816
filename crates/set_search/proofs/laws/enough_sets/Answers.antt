use Rattle.std.proofs.Common.{arith}
use Rattle.set_search.proofs.Deciding.{sets_are_few}
use Rattle.set_search.proofs.laws.enough_sets.Goals as goal

pub returns : goal.returns
returns c = λ n sets margin records tab order low two le spent.
    let few = sets_are_few n tab.winner records low two in
    let above = spent.above in
    omega (arith, few, above, le)
