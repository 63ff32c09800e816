use Rattle.bound_search.proofs.Counting.{orders_stay_open}
use Rattle.bound_search.proofs.laws.orders_stay_open.Goals as goal

pub returns : goal.returns
returns c = orders_stay_open
