use Rattle.std.proofs.Common.{◌≡◌}
use Rattle.set_tallies.proofs.Winners.{winners_below}
use Rattle.set_tallies.proofs.ahead.winners_of.Given as goal

abbrev pub invariant-loop-w : goal.invariant-loop-w
invariant-loop-w l = l.winners.items ≡ winners_below l.firsts l.ahead l.w
