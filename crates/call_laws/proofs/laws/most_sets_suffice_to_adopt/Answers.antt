use Rattle.call_laws.proofs.MostSets.{most_sets_suffice_to_adopt}
use Rattle.call_laws.proofs.laws.most_sets_suffice_to_adopt.Goals as goal

pub returns : goal.returns
returns c = most_sets_suffice_to_adopt
