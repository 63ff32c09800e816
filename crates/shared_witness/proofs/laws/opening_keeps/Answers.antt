use Rattle.shared_witness.proofs.Keeps.{opening_keeps}
use Rattle.shared_witness.proofs.laws.opening_keeps.Goals as goal

pub returns : goal.returns
returns c t fits some = opening_keeps t fits some
