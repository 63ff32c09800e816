use Rattle.std.proofs.Common.{◌≡◌, ◌+◌, ◌≤◌, All, map, take}
use Rattle.irv_base.specs.declared.limits.TheConstants.{MOST_DRAWS}
use Rattle.assertions.specs.Assorter.{assorter_value}
use Rattle.polling.specs.Polls.{counted, polled}
use Rattle.polling.proofs.end.all_counts.Given as goal

abbrev pub invariant-loop-j : goal.invariant-loop-j
invariant-loop-j l = record {
  counts : l.all.items ≡ take l.j (map (λ claim. counted (map (polled (assorter_value claim.assertion)) l.drawn)) l.claims);
  draws : All (λ c. c.n0 + c.n1 + c.n2 ≤ MOST_DRAWS) l.all.items;
}
