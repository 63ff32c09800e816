use Rattle.claims_file.proofs.FromFiles.{file_is_read}
use Rattle.claims_file.proofs.laws.assertion_file_is_read.Goals as goal

pub returns : goal.returns
returns c = file_is_read
