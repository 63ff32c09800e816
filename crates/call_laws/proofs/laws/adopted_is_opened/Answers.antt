use Rattle.call_laws.proofs.AdoptedFiles.{adopted_is_opened}
use Rattle.call_laws.proofs.laws.adopted_is_opened.Goals as goal

pub returns : goal.returns
returns c = adopted_is_opened
