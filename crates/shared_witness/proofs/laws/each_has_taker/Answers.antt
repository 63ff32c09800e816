use Rattle.shared_witness.proofs.Joined.{taker}
use Rattle.shared_witness.proofs.laws.each_has_taker.Goals as goal

pub returns : goal.returns
returns c n views once p low = taker n views once p low
