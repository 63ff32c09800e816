use Rattle.fewest_search.proofs.Needs.{all_are_needed}
use Rattle.fewest_search.proofs.laws.all_are_needed.Goals as goal

pub returns : goal.returns
returns c = all_are_needed
