use Rattle.shared_witness.proofs.Events.{take_is_event}
use Rattle.shared_witness.proofs.laws.take_is_event.Goals as goal

pub returns : goal.returns
returns c t m k v values h pieces at going = take_is_event t m k v values h at pieces going
