use Rattle.std.proofs.Common.{rules}
use Rattle.check_command.proofs.check_texts.no.Goals as goal

pub returns : goal.returns
returns c = search rules
