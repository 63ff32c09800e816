use Rattle.assertions.proofs.Endings.{alternative_orders_are}
use Rattle.assertions.proofs.laws.alternative_orders.Goals as goal

pub returns : goal.returns
returns c = alternative_orders_are
