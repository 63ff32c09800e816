use Rattle.std.proofs.Common.{refl}
use Rattle.irv_base.proofs.Padded.{copied_order}
use Rattle.irv_base.proofs.order.Order.of_all.Goals as goal

pub invariant_of-result : goal.invariant_of-result
invariant_of-result c = (copied_order c.args.list.now _ _ c.copy_from_slice.ensures.after refl c.requires.some c.requires.room c.requires.whole).0
