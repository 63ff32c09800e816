use Rattle.assertions.proofs.Listings.{start_is_alternative}
use Rattle.assertions.proofs.laws.start_is_alternative.Goals as goal

pub returns : goal.returns
returns c = start_is_alternative
