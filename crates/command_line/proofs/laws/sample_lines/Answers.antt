use Rattle.std.proofs.Common.{refl}
use Rattle.command_line.proofs.laws.sample_lines.Goals as goal

pub returns : goal.returns
returns c = record { both = refl; other_order = refl; no_seed = refl; no_draws = refl; two_seeds = refl }
