use Rattle.call_laws.proofs.SignedOff.{signed_off_is_counted}
use Rattle.call_laws.proofs.laws.signed_off_is_counted.Goals as goal

pub returns : goal.returns
returns c = signed_off_is_counted
