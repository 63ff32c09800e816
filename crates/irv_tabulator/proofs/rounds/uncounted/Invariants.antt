use Rattle.std.proofs.Common.{◌≡◌, ◌-◌, sum, take}
use Rattle.irv_tabulator.proofs.rounds.uncounted.Given as goal

abbrev pub invariant-loop-votes : goal.invariant-loop-votes
invariant-loop-votes l = l.left ≡ l.records - sum (take l.votes-index l.row)
