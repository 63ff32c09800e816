use Rattle.std.proofs.Common.{◌≡◌, drop}
use Rattle.contest_set.specs.Ends.{are_confirmed}
use Rattle.contest_set.proofs.one.are_confirmed.Given as goal

abbrev pub invariant-loop-risk : goal.invariant-loop-risk
invariant-loop-risk l = are_confirmed l.limit l.risks ≡ are_confirmed l.limit (drop l.risk-index l.risks)
