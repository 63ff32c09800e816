use Rattle.ballot_laws.proofs.Bytes.{written_is_judged as judged_law}
use Rattle.ballot_laws.proofs.Written.{written_is_read as law}
use Rattle.ballot_laws.proofs.laws.written_is_read.Goals as goal

pub returns-clause-read : goal.returns-clause-read
returns-clause-read c = law

pub returns-clause-judged : goal.returns-clause-judged
returns-clause-judged c = judged_law
