use Rattle.std.proofs.Common.{◌≡◌, ◌≤◌, ◌*◌, ℕ, List, take, sum_by}
use Rattle.assorters.specs.Calls.{Computes}
use Rattle.assorters.specs.Cards.{recorded_value}
use Rattle.assorters.specs.declared.assorter.TheConstants.{GREATEST_VALUE}
use Rattle.assorters.proofs.assorter.Assorter.recorded_total.Given as goal

abbrev pub invariant-loop-i : goal.invariant-loop-i
invariant-loop-i g l = record {
  most : l.total ≤ GREATEST_VALUE * l.i;
  summed : (value : List ℕ → ℕ) → Computes g.F.Fn l.self.closure value → l.total ≡ sum_by (recorded_value value) (take l.i l.l);
}
