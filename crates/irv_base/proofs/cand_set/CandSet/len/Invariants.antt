use Rattle.std.proofs.Common.{◌≡◌, ◌≤◌, length, filter}
use Rattle.irv_base.specs.Candidates.{candidates, has}
use Rattle.irv_base.proofs.cand_set.CandSet.len.Given as goal

abbrev pub invariant-loop-c : goal.invariant-loop-c
invariant-loop-c l = record { counted : l.count ≡ length (filter (has l.self) (candidates l.c)); few : l.count ≤ l.c }
