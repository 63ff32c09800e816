use Rattle.std.proofs.Common.{sym, ◌∙◌}
use Rattle.bound_search.proofs.Sifting.{sifted_start, found_more, pushed, pruned}
use Rattle.bound_search.proofs.sift.sift.Goals as goal

pub loop-child-init : goal.loop-child-init
loop-child-init c = sifted_start _ _ _ c.new-fresh.ensures.items c.new-fresh.ensures.heap_order

pub loop-child-preserved-then-is_whole : goal.loop-child-preserved-then-is_whole
loop-child-preserved-then-is_whole c =
    found_more _ _ _ _ _ _ _ _ c.in-Some.ensures.items c.if-child-bound.true (sym c.is_whole.ensures
    ∙ c.if-is_whole.true) c.lesser.ensures.order c.lesser.ensures.found c.lesser.ensures.one c.loop-child.invariant

pub loop-child-preserved-in-Continue-1 : goal.loop-child-preserved-in-Continue-1
loop-child-preserved-in-Continue-1 c =
    pushed _ _ _ _ _ _ _ _ c.in-Some.ensures.items c.if-child-bound.true (sym c.is_whole.ensures
    ∙ c.if-is_whole.false) c.in_ok-push.ensures.permutation c.in_ok-push.ensures.heap_order c.loop-child.invariant

pub loop-child-preserved : goal.loop-child-preserved
loop-child-preserved c = pruned _ _ _ _ _ _ _ c.in-Some.ensures.items c.if-child-bound.false c.loop-child.invariant
