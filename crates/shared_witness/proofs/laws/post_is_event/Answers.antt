use Rattle.shared_witness.proofs.Events.{post_is_event}
use Rattle.shared_witness.proofs.laws.post_is_event.Goals as goal

pub returns : goal.returns
returns c t m k v value values h at high = post_is_event t m k v values h at value high
