use Rattle.std.proofs.Common.{refl}
use Rattle.assorters.proofs.assorter.Assorter.value.Goals as goal

pub returns-clause-most : goal.returns-clause-most
returns-clause-most g c = c.requires.values c.args.r.now c.closure.result (record { shown = c.args.r; shows = refl; says = record { met = c.closure.ensures } })
