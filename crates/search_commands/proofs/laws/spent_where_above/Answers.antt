use Rattle.search_commands.proofs.Searches.{spent_where_above}
use Rattle.search_commands.proofs.laws.spent_where_above.Goals as goal

pub returns : goal.returns
returns c = spent_where_above
