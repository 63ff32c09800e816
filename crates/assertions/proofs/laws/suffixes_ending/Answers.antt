use Rattle.assertions.proofs.Enumerated.{suffixes_ending_are}
use Rattle.assertions.proofs.laws.suffixes_ending.Goals as goal

pub returns : goal.returns
returns c = suffixes_ending_are
