use Rattle.std.proofs.Common.{◌≡◌, ◌≤◌, ℕ, List, length, map, take}
use Rattle.irv_base.specs.declared.limits.TheConstants.{MOST_RECORDS}
use Rattle.set_tallies.specs.Bags.{IsOf}
use Rattle.assertions.specs.Certificate.{claim_of}
use Rattle.adoption.proofs.margins.with_margins.Given as goal

abbrev pub invariant-loop-a : goal.invariant-loop-a
invariant-loop-a l = record {
  so_far : (records : List (List ℕ)) → IsOf l.fn.tallies.bag records → length records ≤ MOST_RECORDS →
      l.claims.items ≡ map (claim_of records) (take l.a-index l.list);
  same : l.tallies ≡ l.fn.tallies;
}
