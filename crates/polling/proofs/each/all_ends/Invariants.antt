use Rattle.std.proofs.Common.{◌≡◌, map, take}
use Rattle.assertions.specs.Assorter.{assorter_value}
use Rattle.polling.specs.Each.{end_of, gamma_of}
use Rattle.polling.specs.Polls.{polled}
use Rattle.polling.proofs.each.all_ends.Given as goal

abbrev pub invariant-loop-j : goal.invariant-loop-j
invariant-loop-j l =
    l.all.items ≡ take l.j (map (λ claim. end_of l.limit (gamma_of l.gamma l.cards claim) (map (polled (assorter_value claim.assertion)) l.drawn)) l.claims)
