use Rattle.std.proofs.Common.{◌≡◌, map, get_or, if◌then◌else◌}
use Rattle.irv_base.specs.Candidates.{candidates, has}
use Rattle.set_tallies.proofs.tallies.tallied.Given as goal

abbrev pub invariant-loop-c : goal.invariant-loop-c
invariant-loop-c l = l.tallied.items ≡ map (λ c. if has l.s c then get_or l.row c 0 else 0) (candidates l.c)
