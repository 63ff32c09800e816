use Rattle.search_commands.proofs.Searches.{spent_by_sets_exactly}
use Rattle.search_commands.proofs.laws.spent_by_sets_exactly.Goals as goal

pub returns : goal.returns
returns c = λ sets least plan ballots winner won verdict found. spent_by_sets_exactly sets least plan ballots winner won verdict found
