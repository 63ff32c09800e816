use Rattle.manifest.proofs.Spelled.{records_spell_batches as law}
use Rattle.manifest.proofs.laws.records_spell_batches.Goals as goal

pub returns : goal.returns
returns c = law
