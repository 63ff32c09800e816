use Rattle.ballot_laws.proofs.Bytes.{bytes_spell_file as bytes_law}
use Rattle.ballot_laws.proofs.Spelled.{records_spell_file as law}
use Rattle.ballot_laws.proofs.laws.records_spell_file.Goals as goal

pub returns-clause-records : goal.returns-clause-records
returns-clause-records c = law

pub returns-clause-bytes : goal.returns-clause-bytes
returns-clause-bytes c = bytes_law
