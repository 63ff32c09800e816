use Rattle.session_state.proofs.PartlySeen.{partly_seen_law}
use Rattle.session_state.proofs.laws.partly_seen.Goals as goal

pub returns : goal.returns
returns c = partly_seen_law
