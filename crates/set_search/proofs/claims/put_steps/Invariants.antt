use Rattle.std.proofs.Common.{◌≡◌, ℕ, List}
use Rattle.assertions.specs.contracts.assertion.AssertionOrd.TheImpl.{ghosts}
use Rattle.set_tallies.specs.Bags.{IsOf}
use Rattle.set_search.specs.Given.{with_each}
use Rattle.set_search.proofs.Giving.{outside_from}
use Rattle.set_search.proofs.claims.put_steps.Given as goal

abbrev pub invariant-loop-c : goal.invariant-loop-c
invariant-loop-c l = record {
  same : l.tallies ≡ l.fn.tallies;
  put : (records : List (List ℕ)) → IsOf l.fn.tallies.bag records →
      with_each ghosts.cmp l.fn.tallies.bag.n records l.margin l.claims.entries l.set (outside_from l.closed l.c l.fn.tallies.bag.n)
      ≡ with_each ghosts.cmp l.fn.tallies.bag.n records l.margin l.fn.claims.entries l.set (outside_from l.closed 0 l.fn.tallies.bag.n);
}
