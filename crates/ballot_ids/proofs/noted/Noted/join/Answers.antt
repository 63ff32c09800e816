use Rattle.std.proofs.Common.{refl}
use Rattle.std.proofs.lemmas.Result.{on_ok_weaker}
use Rattle.ballot_ids.proofs.OfBoth.{joined}
use Rattle.ballot_ids.proofs.noted.Noted.join.Goals as goal

pub returns : goal.returns
returns c = on_ok_weaker c.join.result
    (λ together own its. joined own its c.args.self.now c.args.other.now _ c.requires together refl) c.join.ensures
