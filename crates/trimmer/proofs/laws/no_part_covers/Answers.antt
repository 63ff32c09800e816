use Rattle.trimmer.proofs.Kept.{no_part_covers}
use Rattle.trimmer.proofs.laws.no_part_covers.Goals as goal

pub returns : goal.returns
returns c = no_part_covers
