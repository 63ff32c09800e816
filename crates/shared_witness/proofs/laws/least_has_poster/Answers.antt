use Rattle.shared_witness.proofs.Joined.{poster}
use Rattle.shared_witness.proofs.laws.least_has_poster.Goals as goal

pub returns : goal.returns
returns c first views = poster first views
