use Rattle.std.proofs.Common.{◌≡◌, ◌-◌, List, length}
use Rattle.assertions.specs.declared.assertion.Assertion.{Assertion}
use Rattle.set_walk.specs.Dives.{dive}
use Rattle.set_walk.specs.Walks.{passes}
use Rattle.set_walk.proofs.Diving.{rest}
use Rattle.cover_checker.specs.Indexed.{IsIndexOf}
use Rattle.cover_checker.specs.Reaching.{Extends}
use Rattle.cover_checker.proofs.walk.+dive.Given as goal

abbrev pub decreases-dive : goal.decreases-dive
decreases-dive l = l.n - length l.suffix.now

abbrev pub invariant-loop-c : goal.invariant-loop-c
invariant-loop-c l = record {
  were : Extends l.fn.reached l.reached;
  same : (list : List Assertion) → IsIndexOf list l.refuting →
      rest l.n l.sets (passes list) l.suffix l.c l.reached
      ≡ dive l.n l.sets (passes list) (l.n - length l.suffix) l.suffix l.fn.reached;
}
