use Rattle.std.proofs.Common.{refl}
use Rattle.command_line.proofs.laws.trial_lines.Goals as goal

pub returns : goal.returns
returns c = record { number = refl; no_number = refl; without_number = refl; two_numbers = refl; with_file = refl; all = refl }
