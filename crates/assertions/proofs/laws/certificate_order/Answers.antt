use Rattle.assertions.proofs.Alternatives.{order_is}
use Rattle.assertions.proofs.laws.certificate_order.Goals as goal

pub returns : goal.returns
returns c = order_is
