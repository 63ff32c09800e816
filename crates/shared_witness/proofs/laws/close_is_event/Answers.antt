use Rattle.shared_witness.proofs.Events.{close_is_event}
use Rattle.shared_witness.proofs.laws.close_is_event.Goals as goal

pub returns : goal.returns
returns c t m k v piece values h at taken open_piece high = close_is_event t m k v values h at piece taken open_piece high
