use Rattle.assertions.proofs.Firsts.{order_is_first}
use Rattle.assertions.proofs.laws.certificate_order_is_first.Goals as goal

pub returns : goal.returns
returns c = order_is_first
