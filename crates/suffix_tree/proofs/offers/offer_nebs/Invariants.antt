use Rattle.std.proofs.Common.{◌≡◌, ℕ, List, drop}
use Rattle.assertions.specs.Scores.{all_offered}
use Rattle.set_tallies.specs.Bags.{AreOf}
use Rattle.suffix_tree.proofs.Offered.{nebs_of}
use Rattle.suffix_tree.proofs.offers.offer_nebs.Given as goal

abbrev pub invariant-loop-w : goal.invariant-loop-w
invariant-loop-w l =
    (records : List (List ℕ)) → AreOf l.ahead records → all_offered records l.score (nebs_of l.set l.c (drop l.w-index l.w-items))
    ≡ all_offered records l.fn.start (nebs_of l.set l.c l.w-items)
