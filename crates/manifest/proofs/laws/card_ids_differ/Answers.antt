use Rattle.manifest.proofs.Placed.{card_ids_differ as law}
use Rattle.manifest.proofs.laws.card_ids_differ.Goals as goal

pub returns : goal.returns
returns c = law
