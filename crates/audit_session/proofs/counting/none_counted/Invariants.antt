use Rattle.std.proofs.Common.{◌≡◌, [], take}
use Rattle.audit_session.specs.Going.{all_counts}
use Rattle.audit_session.proofs.counting.none_counted.Given as goal

abbrev pub invariant-loop : goal.invariant-loop
invariant-loop g l = l.counts.items ≡ take l.counter (all_counts (g.T.Claims.values l.claims) [])
