use Rattle.std.proofs.Common.{arith}
use Rattle.irv_base.proofs.Padded.{order_placed}
use Rattle.irv_base.proofs.order.Order.read.Goals as goal

pub invariant_of-result : goal.invariant_of-result
invariant_of-result c = (order_placed c.args.n c.args.list.now c.loop-i.places c.loop-i.i c.requires.some c.requires.room
    (omega (arith, c.if-list-from.false, c.from.ensures)) (omega (arith, c.loop-i-test.false, c.loop-i.auto.i-end)) c.loop-i.invariant.placed
    c.loop-i.invariant.sound).0

pub returns-clause-valid : goal.returns-clause-valid
returns-clause-valid c = (order_placed c.args.n c.args.list.now c.loop-i.places c.loop-i.i c.requires.some c.requires.room
    (omega (arith, c.if-list-from.false, c.from.ensures)) (omega (arith, c.loop-i-test.false, c.loop-i.auto.i-end)) c.loop-i.invariant.placed
    c.loop-i.invariant.sound).2
