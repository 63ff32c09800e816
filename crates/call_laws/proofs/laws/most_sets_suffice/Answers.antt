use Rattle.call_laws.proofs.MostSets.{most_sets_suffice}
use Rattle.call_laws.proofs.laws.most_sets_suffice.Goals as goal

pub returns : goal.returns
returns c = most_sets_suffice
