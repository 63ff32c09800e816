use Rattle.search_commands.proofs.TrialLaws.{trial_is_a_search}
use Rattle.search_commands.proofs.laws.trial_is_a_search.Goals as goal

pub returns : goal.returns
returns c = trial_is_a_search
