use Rattle.assertions.proofs.Endings.{orders_ending_are}
use Rattle.assertions.proofs.laws.orders_ending.Goals as goal

pub returns : goal.returns
returns c = orders_ending_are
