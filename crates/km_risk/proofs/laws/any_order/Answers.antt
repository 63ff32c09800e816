use Rattle.km_risk.proofs.Order.{order_law}
use Rattle.km_risk.proofs.laws.any_order.Goals as goal

pub returns : goal.returns
returns c = order_law
