use Rattle.std.proofs.Common.{◌++◌, sym, ap, arith, ◌∙◌}
use Rattle.std.proofs.lemmas.List.{append-nil, drop_all}
use Rattle.certifier.proofs.InOrder.{claims_of, claims-sorted}
use Rattle.certifier.proofs.in_order.in_order.Goals as goal

pub returns : goal.returns
returns c =
    let list = c.args.list.now in
    let marks = c.in_ok-marks.marks.items in
    let claims = c.loop-i.claims.items in
    sym (append-nil claims)
    ∙ ap (λ ms. claims ++ claims_of list ms) (sym (drop_all c.loop-i.i marks (omega (arith, c.loop-i-test.false, c.len-i-end.ensures))))
    ∙ c.loop-i.invariant ∙ claims-sorted list marks c.in_ok-marks.ensures
