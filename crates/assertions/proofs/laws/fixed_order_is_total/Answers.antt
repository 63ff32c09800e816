use Rattle.assertions.proofs.Ords.{fixed_order_is_total}
use Rattle.assertions.proofs.laws.fixed_order_is_total.Goals as goal

pub returns : goal.returns
returns c = fixed_order_is_total
