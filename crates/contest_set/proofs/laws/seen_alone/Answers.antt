use Rattle.contest_set.proofs.SeenEach.{seen_alone}
use Rattle.contest_set.proofs.laws.seen_alone.Goals as goal

pub returns : goal.returns
returns c = seen_alone
