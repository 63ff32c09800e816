use Rattle.search_commands.proofs.TrialLaws.{trial_is_complete}
use Rattle.search_commands.proofs.laws.trial_is_complete.Goals as goal

pub returns : goal.returns
returns c = trial_is_complete
