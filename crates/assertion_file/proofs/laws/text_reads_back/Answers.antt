use Rattle.assertion_file.proofs.Files.{text_reads_back}
use Rattle.assertion_file.proofs.laws.text_reads_back.Goals as goal

pub returns : goal.returns
returns c = text_reads_back
