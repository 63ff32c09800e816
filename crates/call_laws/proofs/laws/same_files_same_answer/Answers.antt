use Rattle.call_laws.proofs.Agreement.{same_files_same_answer}
use Rattle.call_laws.proofs.laws.same_files_same_answer.Goals as goal

pub returns : goal.returns
returns c = same_files_same_answer
