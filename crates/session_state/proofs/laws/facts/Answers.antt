use Rattle.session_state.proofs.Facts.{facts_law}
use Rattle.session_state.proofs.laws.facts.Goals as goal

pub returns : goal.returns
returns c = facts_law
