use Rattle.std.proofs.Common.{arith}
use Rattle.sampler.proofs.Numbers.{remainder_more}
use Rattle.sampler.proofs.card.remainder.Goals as goal

pub loop-byte-preserved : goal.loop-byte-preserved
loop-byte-preserved c = remainder_more c.args.bytes.now c.loop-byte.byte-index c.from-cards.result _ _ c.loop-byte.invariant c.from.ensures (omega arith)
