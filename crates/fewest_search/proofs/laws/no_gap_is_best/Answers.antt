use Rattle.fewest_search.proofs.Gaps.{no_gap_is_best}
use Rattle.fewest_search.proofs.laws.no_gap_is_best.Goals as goal

pub returns : goal.returns
returns c = no_gap_is_best
