use Rattle.std.proofs.Common.{◌≡◌, drop, map}
use Rattle.assertions.specs.contracts.assertion.AssertionOrd.TheImpl.{ghosts}
use Rattle.certifier.specs.Gathered.{with_all}
use Rattle.fewest_search.specs.InOrder.{entry_of}
use Rattle.fewest_search.proofs.in_order.put_all.Given as goal

abbrev pub invariant-loop-claim : goal.invariant-loop-claim
invariant-loop-claim l =
    with_all ghosts.cmp l.entries.entries (map entry_of (drop l.claim-index l.claims))
    ≡ with_all ghosts.cmp l.fn.entries.entries (map entry_of l.claims)
