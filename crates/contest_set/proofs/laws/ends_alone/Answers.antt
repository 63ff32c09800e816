use Rattle.contest_set.proofs.EndsEach.{ends_alone}
use Rattle.contest_set.proofs.laws.ends_alone.Goals as goal

pub returns : goal.returns
returns c = ends_alone
