use Rattle.call_laws.proofs.TrimmedFiles.{trimmed_is_accepted}
use Rattle.call_laws.proofs.laws.trimmed_is_accepted.Goals as goal

pub returns : goal.returns
returns c = trimmed_is_accepted
