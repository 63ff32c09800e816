use Rattle.std.proofs.Common.{◌++◌, ◌∷◌, [], Contains, map, sym, ap, ◌∙◌}
use Rattle.std.proofs.lemmas.List.{map_push}
use Rattle.std.proofs.lemmas.List.Elements.{All-push, All-same}
use Rattle.irv_base.specs.Candidates.{candidates}
use Rattle.irv_base.proofs.Ranges.{candidates-more}
use Rattle.bound_search.specs.declared.ends.PieceEnd.{PieceEnd}
use Rattle.bound_search.proofs.join.in_order.Goals as goal

pub loop-piece-preserved : goal.loop-piece-preserved
loop-piece-preserved c =
    let inv = c.loop-piece.invariant in
    let items = c.in_ok-push.ensures.items in
    record {
      numbers = ap (map (λ (p : PieceEnd). p.piece)) items ∙ map_push (λ (p : PieceEnd). p.piece) c.loop-piece.pieces.items c.entry_of.result
          ∙ ap (λ xs. xs ++ c.entry_of.result.piece ∷ []) inv.numbers
          ∙ ap (λ k. candidates c.loop-piece.piece ++ k ∷ []) c.entry_of.ensures.piece ∙ sym (candidates-more c.loop-piece.piece);
      each = All-same (Contains c.args.ends.now) _ _ items (All-push (Contains c.args.ends.now) c.loop-piece.pieces.items c.entry_of.result inv.each
          c.entry_of.ensures.one);
    }
