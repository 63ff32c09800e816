use Rattle.std.proofs.Common.{◌≡◌, ℕ, nat_lt}
use Rattle.irv_base.specs.Candidates.{has}
use Rattle.nen_cut.proofs.all.all_of.Given as goal

abbrev pub invariant-loop-c : goal.invariant-loop-c
invariant-loop-c l = (d : ℕ) → has l.all d ≡ nat_lt d l.c
