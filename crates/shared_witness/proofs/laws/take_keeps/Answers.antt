use Rattle.shared_witness.proofs.Keeps.{take_keeps}
use Rattle.shared_witness.proofs.laws.take_keeps.Goals as goal

pub returns : goal.returns
returns c t m k v h at may = take_keeps t m k v h at may
