use Rattle.assertions.proofs.Elections.{cover_is_sound}
use Rattle.assertions.proofs.laws.cover_is_sound.Goals as goal

pub returns : goal.returns
returns c = cover_is_sound
