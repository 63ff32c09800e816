use Rattle.std.proofs.Common.{length, ap, arith}
use Rattle.irv_base.proofs.Between.{length-between}
use Rattle.irv_base.proofs.lists.Lists.at.Goals as goal

pub bounds-begin-requires-clause-within : goal.bounds-begin-requires-clause-within
bounds-begin-requires-clause-within g c =
    omega (
      arith,
      c.requires,
      ap length c.self.view_is,
      length-between c.self.inside.begins.items c.self.inside.elements.items,
      ap length c.as_slice.ensures.value,
    )
