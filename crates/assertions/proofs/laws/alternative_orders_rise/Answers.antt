use Rattle.assertions.proofs.Listings.{alternative_orders_rise}
use Rattle.assertions.proofs.laws.alternative_orders_rise.Goals as goal

pub returns : goal.returns
returns c = alternative_orders_rise
