use Rattle.std.proofs.Common.{◌≡◌, All, Contains, map}
use Rattle.irv_base.specs.Candidates.{candidates}
use Rattle.bound_search.proofs.join.in_order.Given as goal

abbrev pub invariant-loop-piece : goal.invariant-loop-piece
invariant-loop-piece l = record {
  numbers : map (λ p. p.piece) l.pieces.items ≡ candidates l.piece;
  each : All (Contains l.ends) l.pieces.items;
}
