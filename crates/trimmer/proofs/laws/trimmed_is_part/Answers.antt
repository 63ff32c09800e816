use Rattle.trimmer.proofs.Draws.{trimmed_is_part}
use Rattle.trimmer.proofs.laws.trimmed_is_part.Goals as goal

pub returns : goal.returns
returns c = trimmed_is_part
