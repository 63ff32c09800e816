use Rattle.fewest_search.proofs.Gaps.{gap_is_rounded_up}
use Rattle.fewest_search.proofs.laws.gap_is_rounded_up.Goals as goal

pub returns : goal.returns
returns c = gap_is_rounded_up
