use Rattle.trimmer.proofs.Kept.{trimmed_stays}
use Rattle.trimmer.proofs.laws.trimmed_stays.Goals as goal

pub returns : goal.returns
returns c = trimmed_stays
