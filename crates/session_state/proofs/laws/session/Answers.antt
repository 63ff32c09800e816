use Rattle.session_state.proofs.Replayed.{session_law}
use Rattle.session_state.proofs.laws.session.Goals as goal

pub returns : goal.returns
returns c = session_law
