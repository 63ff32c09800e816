use Rattle.call_laws.proofs.PrintedFiles.{printed_is_opened}
use Rattle.call_laws.proofs.laws.printed_is_opened.Goals as goal

pub returns : goal.returns
returns c = printed_is_opened
