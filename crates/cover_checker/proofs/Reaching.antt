-- How the checker's walk ends.
use Rattle.std.proofs.Common.{◌≡◌, ℕ, ◌+◌, ◌<◌, Bool, List, [], ◌++◌, Ok, Err, refl, sym, ap, subst, append_assoc, ◌∙◌}
use Rattle.set_walk.specs.Dives.{Seen, dives, on_seen, walked}
use Rattle.set_walk.specs.declared.walk.Stop.TheVariants.{Found as WalkFound, Spent as WalkSpent}
use Rattle.set_walk.proofs.Counted.{walk_is}
use Rattle.set_walk.proofs.Ends.{ended}
use Rattle.set_walk.proofs.Exact.{Outcome, outcome}
use Rattle.set_walk.proofs.Places.{Gone}
use Rattle.cover_checker.specs.Reaching.{Extends, IsReach, IsStop, stopped}
use Rattle.cover_checker.specs.declared.walk.SetWalk.TheVariants.{Ended}
use Rattle.cover_checker.specs.declared.walk.Stop.{Stop}
use Rattle.cover_checker.specs.declared.walk.Stop.TheVariants.{Found, Spent, Memory}

-- if a part stops, so does what continues from it
pub stop-goes : (stop : Stop) (part all : Seen) (rest : List ℕ → Seen) → all ≡ on_seen part rest → IsStop part stop → IsStop all stop
stop-goes (Found order) part all rest e h = e ∙ ap (λ r. on_seen r rest) h
stop-goes Spent part all rest e h = e ∙ ap (λ r. on_seen r rest) h
stop-goes Memory part all rest e h = tt

pub stop-same : (stop : Stop) (part all : Seen) → part ≡ all → IsStop part stop → IsStop all stop
stop-same (Found order) part all e h = sym e ∙ h
stop-same Spent part all e h = sym e ∙ h
stop-same Memory part all e h = tt

pub extends-on : (old mid new : List ℕ) → Extends old mid → Extends mid new → Extends old new
extends-on old mid new (a, e) (b, f) = (a ++ b, f ∙ ap (λ xs. xs ++ b) e ∙ append_assoc old a b)

module _ (n winner sets : ℕ) (goes : ℕ → ℕ → Bool) (some : 0 < n) where
  pub stopped-reach : (stop : Stop) → IsStop (dives n winner sets goes) stop → IsReach n winner sets goes (stopped sets stop)
  stopped-reach (Found order) e = sym (walk_is n winner goes sets some) ∙ ap walked e
  stopped-reach Spent e = (refl, sym (walk_is n winner goes sets some) ∙ ap walked e)
  stopped-reach Memory e = tt

  pub ended-reach : (reached : List ℕ) → dives n winner sets goes ≡ Ok reached → IsReach n winner sets goes (Ok (Ended reached))
  ended-reach reached e = (
    sym (walk_is n winner goes sets some) ∙ ap walked e,
    ended n winner sets goes some reached e,
    (subst (Outcome n winner sets goes (Gone [] n)) e (outcome n winner sets goes some)).1,
  )
