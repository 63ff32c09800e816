use Rattle.fewest_search.proofs.Needs.{nens_are_needed}
use Rattle.fewest_search.proofs.laws.nens_are_needed.Goals as goal

pub returns : goal.returns
returns c = nens_are_needed
