use Rattle.std.proofs.Common.{◌≡◌, drop}
use Rattle.irv_base.specs.Records.{is_ahead}
use Rattle.assertions.proofs.assorter.is_ahead.Given as goal

abbrev pub invariant-loop-c : goal.invariant-loop-c
invariant-loop-c l = is_ahead (drop l.c-index l.c-items) l.l l.w ≡ is_ahead l.ranking l.l l.w
