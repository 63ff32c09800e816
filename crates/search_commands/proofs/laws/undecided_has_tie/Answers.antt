use Rattle.search_commands.proofs.Ends.{undecided_has_tie}
use Rattle.search_commands.proofs.laws.undecided_has_tie.Goals as goal

pub returns : goal.returns
returns c = undecided_has_tie
