use Rattle.std.proofs.Common.{◌≡◌, map, if◌then◌else◌}
use Rattle.irv_base.specs.Candidates.{candidates, has}
use Rattle.set_tallies.specs.Halves.{half_at}
use Rattle.set_tallies.proofs.halves.Halves.row.Given as goal

abbrev pub invariant-loop-c : goal.invariant-loop-c
invariant-loop-c l = l.row.items ≡ map (λ c. if has l.s c then half_at l.self l.s c else 0) (candidates l.c)
