use Rattle.km_risk.proofs.Sequences.{sequences_law}
use Rattle.km_risk.proofs.laws.all_sequences.Goals as goal

pub returns : goal.returns
returns c = sequences_law
