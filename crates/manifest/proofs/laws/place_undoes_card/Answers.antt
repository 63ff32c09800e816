use Rattle.manifest.proofs.Placed.{place_undoes_card as law}
use Rattle.manifest.proofs.laws.place_undoes_card.Goals as goal

pub returns : goal.returns
returns c = law
