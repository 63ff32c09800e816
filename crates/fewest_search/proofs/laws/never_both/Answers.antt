use Rattle.fewest_search.proofs.Needs.{never_both}
use Rattle.fewest_search.proofs.laws.never_both.Goals as goal

pub returns : goal.returns
returns c = never_both
