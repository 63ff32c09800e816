use Rattle.std.proofs.Common.{◌≡◌, map, take}
use Rattle.polling.specs.Polls.{poll_risk}
use Rattle.polling.proofs.end.risks_of.Given as goal

abbrev pub invariant-loop-j : goal.invariant-loop-j
invariant-loop-j l = l.risks.items ≡ take l.j (map (poll_risk l.gamma) l.counts)
