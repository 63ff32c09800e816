use Rattle.fewest_search.proofs.Needs.{best_is_reached}
use Rattle.fewest_search.proofs.laws.best_is_reached.Goals as goal

pub returns : goal.returns
returns c = best_is_reached
