use Rattle.std.proofs.Common.{◌≡◌}
use Rattle.irv_base.specs.Candidates.{all_but}
use Rattle.plurality.proofs.firsts.all_but.Given as goal

abbrev pub invariant-loop-i : goal.invariant-loop-i
invariant-loop-i l = l.others.items ≡ all_but l.i l.one
