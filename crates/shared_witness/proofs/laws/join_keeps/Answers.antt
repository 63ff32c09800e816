use Rattle.shared_witness.proofs.Keeps.{join_keeps}
use Rattle.shared_witness.proofs.laws.join_keeps.Goals as goal

pub returns : goal.returns
returns c t m k v i w fits h at there apart left = join_keeps t fits m k v h at i w there apart left
