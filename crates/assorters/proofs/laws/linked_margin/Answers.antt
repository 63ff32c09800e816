use Rattle.assorters.proofs.LinkedMargins.{linked_margin_law}
use Rattle.assorters.proofs.laws.linked_margin.Goals as goal

pub returns : goal.returns
returns c = linked_margin_law
