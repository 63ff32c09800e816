use Rattle.contest_set.proofs.SeenEach.{seen_is_each}
use Rattle.contest_set.proofs.laws.seen_is_each.Goals as goal

pub returns : goal.returns
returns c = seen_is_each
