use Rattle.trimmer.proofs.Kept.{trimmed_is_irredundant}
use Rattle.trimmer.proofs.laws.trimmed_is_irredundant.Goals as goal

pub returns : goal.returns
returns c = trimmed_is_irredundant
