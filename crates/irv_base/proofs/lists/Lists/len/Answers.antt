use Rattle.std.proofs.Common.{length, ap, arith}
use Rattle.irv_base.proofs.Between.{length-between}
use Rattle.irv_base.proofs.lists.Lists.len.Goals as goal

pub returns : goal.returns
returns g c =
    omega (
      arith,
      c.len.ensures,
      ap length c.self.view_is,
      length-between c.self.inside.begins.items c.self.inside.elements.items,
      c.self.inside.begins.ok,
    )
