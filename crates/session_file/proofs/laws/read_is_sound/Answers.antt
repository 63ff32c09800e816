use Rattle.session_file.proofs.SoundFiles.{read_is_sound}
use Rattle.session_file.proofs.laws.read_is_sound.Goals as goal

pub returns : goal.returns
returns c = read_is_sound
