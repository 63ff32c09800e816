use Rattle.nen_cut.proofs.Leading.{IsLeading}
use Rattle.nen_cut.proofs.strongest.strongest_nen.Given as goal

abbrev pub invariant-loop-l : goal.invariant-loop-l
invariant-loop-l l = IsLeading l.n l.rest l.w l.row l.l l.loser l.margin
