use Rattle.shared_witness.proofs.Fresh.{take_is_fresh}
use Rattle.shared_witness.proofs.laws.take_is_fresh.Goals as goal

pub returns : goal.returns
returns c t m h = take_is_fresh t m h
