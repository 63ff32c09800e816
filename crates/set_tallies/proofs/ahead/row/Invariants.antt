use Rattle.std.proofs.Common.{◌≡◌, ◌^◌, map}
use Rattle.irv_base.specs.Candidates.{candidates}
use Rattle.set_tallies.specs.Bags.{votes_at}
use Rattle.set_tallies.proofs.ahead.row.Given as goal

abbrev pub invariant-loop-w : goal.invariant-loop-w
invariant-loop-w l = l.row.items ≡ map (λ w. votes_at l.bag (2 ^ w) l.c) (candidates l.w)
