use Rattle.call_laws.proofs.PrintedFiles.{printed_is_accepted}
use Rattle.call_laws.proofs.laws.printed_is_accepted.Goals as goal

pub returns : goal.returns
returns c = printed_is_accepted
