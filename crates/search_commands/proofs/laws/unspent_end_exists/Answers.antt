use Rattle.search_commands.proofs.Ends.{unspent_end_exists}
use Rattle.search_commands.proofs.laws.unspent_end_exists.Goals as goal

pub returns : goal.returns
returns c = unspent_end_exists
