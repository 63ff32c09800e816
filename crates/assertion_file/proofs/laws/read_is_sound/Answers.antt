use Rattle.assertion_file.proofs.SoundFiles.{read_keeps}
use Rattle.assertion_file.proofs.laws.read_is_sound.Goals as goal

pub returns : goal.returns
returns c = read_keeps
