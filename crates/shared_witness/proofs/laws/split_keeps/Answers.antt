use Rattle.shared_witness.proofs.Keeps.{split_keeps}
use Rattle.shared_witness.proofs.laws.split_keeps.Goals as goal

pub returns : goal.returns
returns c t m k v fits h at two = split_keeps t fits m k v h at two
