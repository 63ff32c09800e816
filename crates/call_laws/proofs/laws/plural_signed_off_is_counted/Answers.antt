use Rattle.call_laws.proofs.PluralsLimit.{plural_signed_off_is_counted}
use Rattle.call_laws.proofs.laws.plural_signed_off_is_counted.Goals as goal

pub returns : goal.returns
returns c = plural_signed_off_is_counted
