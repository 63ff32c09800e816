use Rattle.std.proofs.Common.{◌≡◌, ℕ, List}
use Rattle.assertions.specs.Scores.{all_offered, no_score}
use Rattle.set_tallies.specs.Bags.{AreOf, HasTallies}
use Rattle.assertions.specs.Steps.{more}
use Rattle.set_search.proofs.Offering.{offers_from}
use Rattle.set_search.proofs.steps.offer_all.Given as goal

abbrev pub invariant-loop-d : goal.invariant-loop-d
invariant-loop-d l =
    (records : List (List ℕ)) → AreOf l.ahead records → HasTallies records l.n (more l.set l.c) l.row →
    all_offered records l.score (offers_from l.set l.c l.d l.n) ≡ all_offered records no_score (offers_from l.set l.c 0 l.n)
