use Rattle.ballot_reader.proofs.Each.{contests_are_each}
use Rattle.ballot_reader.proofs.Missed.{none_is_missed}
use Rattle.ballot_reader.proofs.laws.contests_are_each.Goals as goal

pub returns : goal.returns
returns c = record { each = contests_are_each; none_missed = none_is_missed }
