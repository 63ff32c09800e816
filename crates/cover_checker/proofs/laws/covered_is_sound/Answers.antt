use Rattle.cover_checker.proofs.Verdicts.{covered_is_sound}
use Rattle.cover_checker.proofs.laws.covered_is_sound.Goals as goal

pub returns : goal.returns
returns c = covered_is_sound
