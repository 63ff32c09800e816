use Rattle.search_commands.proofs.Ends.{end_exists}
use Rattle.search_commands.proofs.laws.end_exists.Goals as goal

pub returns : goal.returns
returns c = end_exists
