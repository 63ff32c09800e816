use Rattle.contest_search.proofs.FewestAccepted.{no_gap_is_best}
use Rattle.contest_search.proofs.laws.no_gap_is_best.Goals as goal

pub returns : goal.returns
returns c = no_gap_is_best
