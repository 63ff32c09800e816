use Rattle.std.proofs.Common.{◌==◌, ◌+◌, inl, inr, List, drop, map, sym, ap, ◌∙◌}
use Rattle.std.proofs.lemmas.Bool.{or_cases, eqb-true}
use Rattle.irv_base.specs.Candidates.{is_in}
use Rattle.bound_search.specs.declared.ends.PieceEnd.{PieceEnd}
use Rattle.bound_search.proofs.Joining.{drop_next}
use Rattle.bound_search.proofs.join.entry_of.Goals as goal

pub loop-end-preserved : goal.loop-end-preserved
loop-end-preserved c =
    let items = c.args.ends.now in
    let i = c.loop-end.end-index in
    let x = c.end-item.result in
    let piece = c.args.piece in
    let next = ap (λ (ps : List PieceEnd). is_in (map (λ (p : PieceEnd). p.piece) ps) piece) (sym (drop_next items i x c.loop-end-test.true c.end-item.is))
    ∙ c.loop-end.invariant in
    elim (or_cases (x.piece == piece) (is_in (map (λ (p : PieceEnd). p.piece) (drop (i + 1) items)) piece) next) [
      | inl same ↦ absurd (c.if-end-piece.false (eqb-true x.piece piece same))
      | inr later ↦ later
    ]
