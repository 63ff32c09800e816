use Rattle.std.proofs.Common.{◌≡◌, true, drop, map}
use Rattle.irv_base.specs.Candidates.{is_in}
use Rattle.bound_search.specs.declared.ends.PieceEnd.{PieceEnd}
use Rattle.bound_search.proofs.join.entry_of.Given as goal

abbrev pub invariant-loop-end : goal.invariant-loop-end
invariant-loop-end l = is_in (map (λ (p : PieceEnd). p.piece) (drop l.end-index l.ends)) l.fn.piece ≡ true
