use Rattle.shared_witness.proofs.Histories.{history_is_shown}
use Rattle.shared_witness.proofs.laws.history_is_shown.Goals as goal

pub returns : goal.returns
returns c = history_is_shown
