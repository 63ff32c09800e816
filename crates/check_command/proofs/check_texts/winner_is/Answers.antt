use Rattle.std.proofs.Common.{rules}
use Rattle.check_command.proofs.check_texts.winner_is.Goals as goal

pub returns : goal.returns
returns c = search rules
