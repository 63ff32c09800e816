use Rattle.manifest.proofs.Placed.{card_undoes_place as law}
use Rattle.manifest.proofs.laws.card_undoes_place.Goals as goal

pub returns : goal.returns
returns c = law
