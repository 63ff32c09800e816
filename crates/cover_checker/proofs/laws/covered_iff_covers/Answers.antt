use Rattle.cover_checker.proofs.Verdicts.{covered_iff_covers}
use Rattle.cover_checker.proofs.laws.covered_iff_covers.Goals as goal

pub returns : goal.returns
returns c = covered_iff_covers
