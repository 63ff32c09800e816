use Rattle.std.proofs.Common.{not}
use Rattle.fewest.specs.Flows.{is_barred}
use Rattle.set_walk.proofs.Few.{standing_are_fewer}
use Rattle.nen_cut.proofs.laws.sets_are_few.Goals as goal

pub returns : goal.returns
returns c n winner floor records below some = standing_are_fewer n winner (λ set c. not (is_barred n records floor set c)) below some
