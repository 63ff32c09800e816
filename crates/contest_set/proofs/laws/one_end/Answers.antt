use Rattle.contest_set.proofs.EndsEach.{one_end}
use Rattle.contest_set.proofs.laws.one_end.Goals as goal

pub returns : goal.returns
returns c = one_end
