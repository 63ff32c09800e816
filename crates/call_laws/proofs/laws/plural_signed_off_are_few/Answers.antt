use Rattle.call_laws.proofs.PluralsLimit.{plural_signed_off_are_few}
use Rattle.call_laws.proofs.laws.plural_signed_off_are_few.Goals as goal

pub returns : goal.returns
returns c = plural_signed_off_are_few
