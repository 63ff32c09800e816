use Rattle.search_commands.proofs.Ends.{tie_iff_undecided}
use Rattle.search_commands.proofs.laws.tie_iff_undecided.Goals as goal

pub returns : goal.returns
returns c = tie_iff_undecided
