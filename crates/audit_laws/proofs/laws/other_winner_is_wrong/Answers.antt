use Rattle.audit_laws.proofs.Published.{other_winner_is_wrong}
use Rattle.audit_laws.proofs.laws.other_winner_is_wrong.Goals as goal

pub returns : goal.returns
returns c = other_winner_is_wrong
