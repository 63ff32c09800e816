use Rattle.claims_file.proofs.Sound.{claims-sound}
use Rattle.claims_file.proofs.laws.read_is_sound.Goals as goal

pub returns : goal.returns
returns c = λ contest ids bytes claims read. claims-sound ids contest bytes claims read
