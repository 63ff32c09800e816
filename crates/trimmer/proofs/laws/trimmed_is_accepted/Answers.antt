use Rattle.trimmer.proofs.Accepted.{trimmed_is_accepted}
use Rattle.trimmer.proofs.laws.trimmed_is_accepted.Goals as goal

pub returns : goal.returns
returns c = trimmed_is_accepted
