use Rattle.std.proofs.Common.{◌≡◌, ◌≤◌, ◌*◌, length}
use Rattle.irv_base.specs.declared.limits.TheConstants.{ROOM}
use Rattle.bound_search.proofs.Cutting.{pieces_below}
use Rattle.bound_search.proofs.pieces.tails_of.Given as goal

abbrev pub invariant-loop-last : goal.invariant-loop-last
invariant-loop-last l = record {
  all : l.tails.items ≡ pieces_below l.n l.fn.winner l.last;
  few : length l.tails.items ≤ ROOM * l.last;
}
