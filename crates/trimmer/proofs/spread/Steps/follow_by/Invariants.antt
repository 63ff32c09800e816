use Rattle.std.proofs.Common.{◌≡◌, ◌≢◌, ℕ, ◌<◌, false, get_or}
use Rattle.irv_base.specs.Candidates.{has}
use Rattle.trimmer.specs.Remaining.{assertions_in}
use Rattle.trimmer.specs.Spreading.{AreNewClosed, IsFollowed, IsSpread}
use Rattle.trimmer.proofs.spread.Steps.follow_by.Given as goal

abbrev pub invariant-loop-i : goal.invariant-loop-i
invariant-loop-i l = record {
  spread : IsSpread l.self.n l.self.winner l.self.budget (assertions_in l.self.claims.now) l.fn.reached l.reached;
  closed : AreNewClosed l.self.n (assertions_in l.self.claims.now) l.fn.reached l.reached;
  nobody : l.c ≢ l.self.winner → IsFollowed (assertions_in l.self.claims.now) l.reached 0 l.c;
  followed : (j : ℕ) → j < l.i → has (get_or l.fn.reached j 0) l.c ≡ false →
      IsFollowed (assertions_in l.self.claims.now) l.reached (get_or l.fn.reached j 0) l.c;
}
