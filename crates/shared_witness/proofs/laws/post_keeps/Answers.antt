use Rattle.shared_witness.proofs.Keeps.{post_keeps}
use Rattle.shared_witness.proofs.laws.post_keeps.Goals as goal

pub returns : goal.returns
returns c t m k v value h at left = post_keeps t m k v h at left value
