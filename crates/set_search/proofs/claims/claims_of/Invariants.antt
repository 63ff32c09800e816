use Rattle.std.proofs.Common.{◌≡◌, ℕ, List, drop}
use Rattle.set_tallies.specs.Bags.{IsOf}
use Rattle.set_search.proofs.Giving.{with_sets}
use Rattle.set_search.proofs.claims.claims_of.Given as goal

abbrev pub invariant-loop-set : goal.invariant-loop-set
invariant-loop-set l = record {
  same : l.tallies ≡ l.fn.tallies;
  put : (records : List (List ℕ)) → IsOf l.fn.tallies.bag records →
      with_sets l.fn.tallies.bag.n records l.margin l.claims.entries (drop l.set-index l.sets)
      ≡ with_sets l.fn.tallies.bag.n records l.margin l.initial.claims.entries l.sets;
}
