use Rattle.search_commands.proofs.Ends.{tabulation_exists}
use Rattle.search_commands.proofs.laws.tabulation_exists.Goals as goal

pub returns : goal.returns
returns c = tabulation_exists
