use Rattle.std.proofs.Common.{◌≡◌, map, take}
use Rattle.set_tallies.specs.Bags.{winners_in}
use Rattle.set_tallies.proofs.ahead.all_winners.Given as goal

abbrev pub invariant-loop-row : goal.invariant-loop-row
invariant-loop-row l = map (λ v. v.items) l.winners.items ≡ map (winners_in l.firsts) (map (λ v. v.items) (take l.row-index l.ahead))
