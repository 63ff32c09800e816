use Rattle.std.proofs.Common.{◌≡◌, ◌≤◌, ◌+◌, ◌*◌, drop, sum_by}
use Rattle.bound_search.specs.declared.ends.PieceEnd.{PieceEnd}
use Rattle.bound_search.proofs.join.report_of.Given as goal

abbrev pub invariant-loop-piece : goal.invariant-loop-piece
invariant-loop-piece l = record {
  expanded : l.expanded + sum_by (λ (p : PieceEnd). p.expanded) (drop l.piece-index l.end.ends.items) ≡ sum_by (λ (p : PieceEnd). p.expanded) l.end.ends.items;
  most : l.expanded ≤ 4294967296 * l.piece-index;
}
