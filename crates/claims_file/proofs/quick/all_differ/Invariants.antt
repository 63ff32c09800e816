use Rattle.std.proofs.Common.{◌≡◌, true, take}
use Rattle.irv_base.specs.Names.{all_differ}
use Rattle.claims_file.proofs.quick.all_differ.Given as goal

abbrev pub invariant-loop-i : goal.invariant-loop-i
invariant-loop-i l = all_differ (take l.i l.names) ≡ true
