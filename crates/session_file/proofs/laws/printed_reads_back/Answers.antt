use Rattle.session_file.proofs.ReadsBack.{printed_reads_back}
use Rattle.session_file.proofs.laws.printed_reads_back.Goals as goal

pub returns : goal.returns
returns c = printed_reads_back
