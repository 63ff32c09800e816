use Rattle.std.proofs.Common.{◌≡◌, ℕ, ◌+◌, ◌<◌, ◌≤◌, drop, get_or, take, length}
use Rattle.session_state.specs.Sessions.{Round}
use Rattle.audit_session.specs.Going.{all_counts}
use Rattle.audit_session.specs.Refusals.{changed_from, last_draws}
use Rattle.audit_session.proofs.earlier.counts_before.Given as goal

abbrev pub invariant-loop-i : goal.invariant-loop-i
invariant-loop-i g l = record {
  from_is : l.from ≡ last_draws (take l.i l.rounds);
  far : l.i ≤ l.from;
  within : l.from ≤ length l.drawn;
  later : (k : ℕ) (d : Round) → l.i ≤ k → k < length l.rounds → l.from < (get_or l.rounds k d).draws;
  counted : l.counts.items ≡ all_counts (g.T.Claims.values l.claims) (take l.from l.drawn);
  left : changed_from (g.T.Claims.values l.claims) l.drawn 1 l.rounds ≡ changed_from (g.T.Claims.values l.claims) l.drawn (l.i + 1) (drop l.i l.rounds);
}
