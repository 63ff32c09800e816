use Rattle.set_tallies.proofs.Filled.{order_is_free}
use Rattle.set_tallies.proofs.laws.order_is_free.Goals as goal

pub returns : goal.returns
returns c = order_is_free
