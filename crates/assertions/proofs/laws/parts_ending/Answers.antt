use Rattle.assertions.proofs.Listings.{parts_ending_are}
use Rattle.assertions.proofs.laws.parts_ending.Goals as goal

pub returns : goal.returns
returns c = parts_ending_are
