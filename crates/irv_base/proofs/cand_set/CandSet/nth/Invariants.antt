use Rattle.std.proofs.Common.{◌≡◌, ◌<◌, ◌-◌, length, filter, slice_get}
use Rattle.std.specs.List.{range_with_len}
use Rattle.irv_base.specs.Candidates.{has, members}
use Rattle.irv_base.specs.declared.limits.TheConstants.{ROOM}
use Rattle.irv_base.proofs.cand_set.CandSet.nth.Given as goal

abbrev pub invariant-loop-c : goal.invariant-loop-c
invariant-loop-c l = record {
  same : slice_get (filter (has l.self) (range_with_len l.c (ROOM - l.c))) l.left ≡ slice_get (members l.self) l.i;
  there : l.left < length (filter (has l.self) (range_with_len l.c (ROOM - l.c)));
}
