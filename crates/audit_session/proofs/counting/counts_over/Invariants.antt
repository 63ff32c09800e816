use Rattle.std.proofs.Common.{◌≡◌, ◌+◌, ◌++◌, List, take}
use Rattle.km_risk.specs.Counts.{draws_in}
use Rattle.audit_session.specs.declared.compared.Drawn.{Drawn}
use Rattle.audit_session.specs.Going.{counts_over, value_at}
use Rattle.audit_session.proofs.counting.counts_over.Given as goal

abbrev pub invariant-loop-i : goal.invariant-loop-i
invariant-loop-i g l = record {
  counts : (earlier : List Drawn) → l.fn.before ≡ counts_over (value_at (g.T.Claims.values l.claims) l.fn.j) earlier →
      l.counts ≡ counts_over (value_at (g.T.Claims.values l.claims) l.fn.j) (earlier ++ take l.i l.drawn);
  draws : draws_in l.counts ≡ draws_in l.fn.before + l.i;
}
