use Rattle.session_state.proofs.SignedOff.{signed_off_law}
use Rattle.session_state.proofs.laws.signed_off.Goals as goal

pub returns : goal.returns
returns c = signed_off_law
