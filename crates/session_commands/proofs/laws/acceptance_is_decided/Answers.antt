use Rattle.session_commands.proofs.Acceptance.{decided}
use Rattle.session_commands.proofs.laws.acceptance_is_decided.Goals as goal

pub returns : goal.returns
returns c = decided
