use Rattle.assertions.proofs.Counts.{cover_count_is}
use Rattle.assertions.proofs.laws.cover_count_is.Goals as goal

pub returns : goal.returns
returns c = cover_count_is
