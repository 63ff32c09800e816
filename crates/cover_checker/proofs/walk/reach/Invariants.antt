use Rattle.std.proofs.Common.{◌≡◌, List}
use Rattle.assertions.specs.declared.assertion.Assertion.{Assertion}
use Rattle.set_walk.specs.Dives.{dives}
use Rattle.set_walk.specs.Walks.{passes}
use Rattle.set_walk.proofs.Diving.{lasts}
use Rattle.cover_checker.specs.Indexed.{IsIndexOf}
use Rattle.cover_checker.proofs.walk.reach.Given as goal

abbrev pub invariant-loop-c : goal.invariant-loop-c
invariant-loop-c l =
    (list : List Assertion) → IsIndexOf list l.refuting →
    lasts l.n l.winner l.sets (passes list) l.c l.reached ≡ dives l.n l.winner l.sets (passes list)
