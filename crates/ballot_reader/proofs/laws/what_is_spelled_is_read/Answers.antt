use Rattle.ballot_reader.proofs.Rereads.{what_is_spelled}
use Rattle.ballot_reader.proofs.laws.what_is_spelled_is_read.Goals as goal

pub returns : goal.returns
returns c = what_is_spelled
