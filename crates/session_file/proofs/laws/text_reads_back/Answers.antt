use Rattle.session_file.proofs.PrintedText.{text_reads_back}
use Rattle.session_file.proofs.laws.text_reads_back.Goals as goal

pub returns : goal.returns
returns c = text_reads_back
