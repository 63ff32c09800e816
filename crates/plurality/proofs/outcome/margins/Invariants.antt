use Rattle.std.proofs.Common.{◌≡◌, ◌-◌, map, slice_index, take}
use Rattle.plurality.proofs.outcome.margins.Given as goal

abbrev pub invariant-loop-loser : goal.invariant-loop-loser
invariant-loop-loser l =
    l.margins.items ≡ map (λ loser. slice_index l.firsts l.winner - slice_index l.firsts loser) (take l.loser-index l.losers)
