use Rattle.assertion_file.proofs.SoundFiles.{read_is_printed}
use Rattle.assertion_file.proofs.laws.read_is_printed.Goals as goal

pub returns : goal.returns
returns c = read_is_printed
