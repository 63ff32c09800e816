use Rattle.std.proofs.Common.{refl}
use Rattle.csv.specs.Writing.{escaped, fields_text, is_blank}
use Rattle.ballot_laws.proofs.examples.writing.Goals as goal

pub returns-clause-lines : goal.returns-clause-lines
unfolding escaped fields_text is_blank
returns-clause-lines c = refl
