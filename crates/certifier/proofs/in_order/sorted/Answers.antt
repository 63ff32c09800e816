use Rattle.std.proofs.Common.{rules}
use Rattle.std.proofs.lemmas.List.Sorted.{answers_always}
use Rattle.certifier.specs.declared.in_order.Mark.{Mark}
use Rattle.certifier.proofs.InOrder.{sorted-marks}
use Rattle.certifier.proofs.in_order.sorted.Goals as goal

pub returns : goal.returns
returns c =
    sorted-marks c.args.list.now c.in_ok-marks.marks.items c.sort_by_key.new.self.items c.in_ok-marks.ensures
    c.sort_by_key.ensures.permutation
    (c.in_ok-sort_by_key.ensures.sorted (λ (m : Mark). m.number) (answers_always _ _ _ (λ f a r g h. search rules)))
    (c.sort_by_key.ensures.stable (λ (m : Mark). m.number) (answers_always _ _ _ (λ f a r g h. search rules)))
