use Rattle.std.proofs.Common.{◌≡◌, ◌++◌, List, take}
use Rattle.audit_session.specs.declared.compared.Drawn.{Drawn}
use Rattle.audit_session.specs.Going.{all_counts}
use Rattle.audit_session.proofs.counting.all_counts.Given as goal

abbrev pub invariant-loop-j : goal.invariant-loop-j
invariant-loop-j g l =
    (earlier : List Drawn) → l.before ≡ all_counts (g.T.Claims.values l.claims) earlier →
    l.all.items ≡ take l.j (all_counts (g.T.Claims.values l.claims) (earlier ++ l.drawn))
