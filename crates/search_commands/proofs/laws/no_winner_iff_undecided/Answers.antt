use Rattle.search_commands.proofs.Ends.{no_winner_iff_undecided}
use Rattle.search_commands.proofs.laws.no_winner_iff_undecided.Goals as goal

pub returns : goal.returns
returns c = no_winner_iff_undecided
