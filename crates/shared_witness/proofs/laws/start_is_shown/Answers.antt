use Rattle.shared_witness.proofs.Events.{start_is_shown}
use Rattle.shared_witness.proofs.laws.start_is_shown.Goals as goal

pub returns : goal.returns
returns c t values fits = start_is_shown t values fits
