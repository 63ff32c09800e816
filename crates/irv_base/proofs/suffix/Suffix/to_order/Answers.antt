use Rattle.irv_base.specs.declared.limits.TheConstants.{ROOM}
use Rattle.irv_base.proofs.Suffixes.{suffix-short}
use Rattle.irv_base.proofs.suffix.Suffix.to_order.Goals as goal

pub of_all-requires-clause-room : goal.of_all-requires-clause-room
of_all-requires-clause-room c = rw c.list.ensures.same (suffix-short ROOM c.args.self.now c.list.ensures.suffix)
