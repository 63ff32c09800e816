use Rattle.check_command.proofs.Checks.{accepted_is_yes}
use Rattle.check_command.proofs.laws.accepted_is_yes.Goals as goal

pub returns : goal.returns
returns c = accepted_is_yes
