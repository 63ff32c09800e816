use Rattle.std.proofs.Common.{◌≡◌, ℕ, ◌-◌, ◌<◌, [], ◌∷◌, ◌++◌, false, length}
use Rattle.irv_base.specs.Candidates.{has, members}
use Rattle.cover_checker.specs.Reaching.{Extends}
use Rattle.trimmer.specs.Remaining.{assertions_in}
use Rattle.trimmer.specs.Spreading.{AreNewClosed, IsFollowed, IsSpread}
use Rattle.trimmer.proofs.spread.Steps.+follow.Given as goal

abbrev pub decreases-follow : goal.decreases-follow
decreases-follow l = l.self.now.n - length (members l.set)

abbrev pub invariant-loop-d : goal.invariant-loop-d
invariant-loop-d l = record {
  were : Extends (l.fn.reached ++ l.more ∷ []) l.reached;
  spread : IsSpread l.self.n l.self.winner l.self.budget (assertions_in l.self.claims.now) l.fn.reached l.reached;
  closed : AreNewClosed l.self.n (assertions_in l.self.claims.now) (l.fn.reached ++ l.more ∷ []) l.reached;
  ahead : (d : ℕ) → d < l.d → has l.more d ≡ false → IsFollowed (assertions_in l.self.claims.now) l.reached l.more d;
}
