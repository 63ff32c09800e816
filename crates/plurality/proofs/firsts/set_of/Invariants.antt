use Rattle.std.proofs.Common.{◌≡◌, take}
use Rattle.irv_base.specs.Candidates.{set_of}
use Rattle.plurality.proofs.firsts.set_of.Given as goal

abbrev pub invariant-loop-c : goal.invariant-loop-c
invariant-loop-c l = l.set ≡ set_of (take l.c-index l.candidates)
