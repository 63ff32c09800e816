use Rattle.shared_witness.proofs.Events.{look_is_event}
use Rattle.shared_witness.proofs.laws.look_is_event.Goals as goal

pub returns : goal.returns
returns c t m k v values h at = look_is_event t m k v values h at
