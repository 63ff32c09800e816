use Rattle.ballot_laws.proofs.Bytes.{first_broken_rule_refuses_bytes as bytes_law}
use Rattle.ballot_laws.proofs.Refused.{first_broken_rule_refuses as law}
use Rattle.ballot_laws.proofs.laws.first_broken_rule_refuses.Goals as goal

pub returns-clause-records : goal.returns-clause-records
returns-clause-records c = law

pub returns-clause-bytes : goal.returns-clause-bytes
returns-clause-bytes c = bytes_law
