use Rattle.std.proofs.Common.{◌≡◌, ◌==◌, filter, take, slice_index}
use Rattle.irv_base.specs.Candidates.{members, set_of}
use Rattle.irv_tabulator.proofs.least.sharing.Given as goal

abbrev pub invariant-loop-i : goal.invariant-loop-i
invariant-loop-i l = l.shared ≡ set_of (filter (λ c. slice_index l.row c == l.tally) (take l.i (members l.remaining)))
