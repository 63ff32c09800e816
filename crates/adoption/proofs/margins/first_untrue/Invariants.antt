use Rattle.std.proofs.Common.{◌≡◌, ℕ, List, drop, find, not}
use Rattle.set_tallies.specs.Bags.{IsOf}
use Rattle.assertions.specs.Assertions.{is_true}
use Rattle.adoption.proofs.margins.first_untrue.Given as goal

abbrev pub invariant-loop-a : goal.invariant-loop-a
invariant-loop-a l = record {
  left : (records : List (List ℕ)) → IsOf l.fn.tallies.bag records →
      find (λ a. not (is_true records a)) l.list ≡ find (λ a. not (is_true records a)) (drop l.a-index l.list);
  same : l.tallies ≡ l.fn.tallies;
}
