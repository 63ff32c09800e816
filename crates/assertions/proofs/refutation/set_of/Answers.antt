use Rattle.assertions.proofs.Masks.{set_of-next}
use Rattle.assertions.proofs.refutation.set_of.Goals as goal

pub loop-c-preserved : goal.loop-c-preserved
loop-c-preserved c = set_of-next _ _ _ _ _ c.requires c.loop-c-test.true c.c-item.is c.loop-c.invariant c.with-set.ensures.number
