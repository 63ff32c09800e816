use Rattle.std.proofs.Common.{◌≡◌, ◌+◌, drop}
use Rattle.audit_session.specs.Refusals.{changed_in}
use Rattle.audit_session.proofs.earlier.first_changed.Given as goal

abbrev pub invariant-loop-j : goal.invariant-loop-j
invariant-loop-j l = changed_in l.round 1 l.expected l.found ≡ changed_in l.round (l.j + 1) (drop l.j l.expected) (drop l.j l.found)
