use Rattle.certifier.proofs.Parting.{part-join}
use Rattle.certifier.proofs.part.Part.join.Goals as goal

pub returns : goal.returns
returns c = λ n records task own its a b.
    part-join n records task own its c.args.self c.args.other _ c.lesser.ensures c.first_end.ensures c.in_ok-join.ensures a b
