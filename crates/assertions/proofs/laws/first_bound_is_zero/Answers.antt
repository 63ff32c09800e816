use Rattle.assertions.proofs.Decided.{first_bound_is_zero}
use Rattle.assertions.proofs.laws.first_bound_is_zero.Goals as goal

pub returns : goal.returns
returns c = first_bound_is_zero
