use Rattle.std.proofs.Common.{◌^◌, ap, ◌∙◌}
use Rattle.irv_base.proofs.Bits.{one_bit}
use Rattle.irv_base.proofs.cand_set.bit.Goals as goal

pub returns : goal.returns
returns c = one_bit c.c.inside.0 c.c.invariant ∙ ap (λ n. 2 ^ n) c.c.view_is
