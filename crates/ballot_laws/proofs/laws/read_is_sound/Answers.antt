use Rattle.ballot_laws.proofs.Sound.{read_is_sound as law}
use Rattle.ballot_laws.proofs.laws.read_is_sound.Goals as goal

pub returns : goal.returns
returns c = law
