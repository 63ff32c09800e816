use Rattle.assorters.proofs.Numbered.{discrepancies_law}
use Rattle.assorters.proofs.laws.by_number.Goals as goal

pub returns : goal.returns
returns c = discrepancies_law
