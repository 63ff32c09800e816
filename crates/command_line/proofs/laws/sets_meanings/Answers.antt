use Rattle.std.proofs.Common.{refl}
use Rattle.command_line.proofs.laws.sets_meanings.Goals as goal

pub returns : goal.returns
returns c = record { search = refl; check = refl; trim = refl; adopt = refl; open_session = refl; audit = refl; trial = refl }
