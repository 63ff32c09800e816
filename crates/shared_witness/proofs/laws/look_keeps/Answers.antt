use Rattle.shared_witness.proofs.Keeps.{look_keeps}
use Rattle.shared_witness.proofs.laws.look_keeps.Goals as goal

pub returns : goal.returns
returns c t m k v h at left = look_keeps t m k v h at left
