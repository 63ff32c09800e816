use Rattle.call_laws.proofs.SignedOff.{signed_off_are_few}
use Rattle.call_laws.proofs.laws.signed_off_are_few.Goals as goal

pub returns : goal.returns
returns c = signed_off_are_few
