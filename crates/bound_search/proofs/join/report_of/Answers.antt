use Rattle.std.proofs.Common.{◌+◌, ◌<◌, List, length, drop, sum_by, get_or, ap, arith, ◌∙◌}
use Rattle.std.proofs.lemmas.List.Sums.{sum_by-cons}
use Rattle.bound_search.specs.declared.ends.PieceEnd.{PieceEnd}
use Rattle.bound_search.proofs.Joining.{drop_next}
use Rattle.bound_search.proofs.join.report_of.Goals as goal

pub loop-piece-preserved : goal.loop-piece-preserved
loop-piece-preserved c =
    let inv = c.loop-piece.invariant in
    let items = c.args.end.now.ends.items in
    let i = c.loop-piece.piece-index in
    let x = c.piece-item.result in
    let same = c.deref-piece-items.ensures.value in
    let inside : i < length items = omega (arith, c.loop-piece-test.true, ap length same) in
    let next = ap (sum_by (λ (p : PieceEnd). p.expanded)) (drop_next items i x inside (c.piece-item.is ∙ ap (λ (ps : List PieceEnd). get_or ps i x) same))
    ∙ sum_by-cons (λ (p : PieceEnd). p.expanded) x (drop (i + 1) items) in
    record {
      expanded = omega (arith, inv.expanded, next, c.from-expanded.ensures);
      most = omega (arith, inv.most, c.from-expanded.ensures);
    }
