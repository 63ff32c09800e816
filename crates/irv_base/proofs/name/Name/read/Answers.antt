use Rattle.std.proofs.Common.{refl, sym, ◌∙◌}
use Rattle.irv_base.proofs.NameBytes.{name_filled}
use Rattle.irv_base.proofs.name.Name.read.Goals as goal

pub invariant_of-result : goal.invariant_of-result
invariant_of-result c = name_filled c.args.bytes.now _ _ c.copy_from_slice.ensures.after refl (sym c.is_name.ensures ∙ c.if-not-is_name.false)
