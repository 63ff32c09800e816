use Rattle.assertions.proofs.Listings.{parts_rise}
use Rattle.assertions.proofs.laws.parts_rise.Goals as goal

pub returns : goal.returns
returns c = parts_rise
