use Rattle.std.proofs.Common.{◌≡◌, true}
use Rattle.irv_base.specs.Candidates.{has}
use Rattle.irv_tabulator.proofs.Leasts.{IsLowest}
use Rattle.irv_tabulator.proofs.least.lowest.Given as goal

abbrev pub invariant-loop-i : goal.invariant-loop-i
invariant-loop-i l = record { remains : has l.remaining l.lowest ≡ true; least : IsLowest l.row l.remaining l.i l.lowest }
