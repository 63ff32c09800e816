use Rattle.assertion_file.proofs.Printed.{printed_reads_back}
use Rattle.assertion_file.proofs.laws.printed_reads_back.Goals as goal

pub returns : goal.returns
returns c = printed_reads_back
