use Rattle.std.proofs.Common.{◌≡◌, ◌==◌, filter, slice_index}
use Rattle.irv_base.specs.Candidates.{candidates}
use Rattle.plurality.proofs.firsts.with_number.Given as goal

abbrev pub invariant-loop-c : goal.invariant-loop-c
invariant-loop-c l = l.those.items ≡ filter (λ c. slice_index l.numbers c == l.number) (candidates l.c)
