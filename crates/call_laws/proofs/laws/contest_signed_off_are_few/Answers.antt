use Rattle.call_laws.proofs.ContestsSignedOff.{contest_signed_off_are_few}
use Rattle.call_laws.proofs.laws.contest_signed_off_are_few.Goals as goal

pub returns : goal.returns
returns c = contest_signed_off_are_few
