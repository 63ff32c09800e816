use Rattle.call_laws.proofs.TrimmedFiles.{trimmed_is_trimmed}
use Rattle.call_laws.proofs.laws.trimmed_is_trimmed.Goals as goal

pub returns : goal.returns
returns c = trimmed_is_trimmed
