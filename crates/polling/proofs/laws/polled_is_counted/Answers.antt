use Rattle.polling.proofs.IsCounted.{polled_is_counted}
use Rattle.polling.proofs.laws.polled_is_counted.Goals as goal

pub returns : goal.returns
returns c = polled_is_counted
