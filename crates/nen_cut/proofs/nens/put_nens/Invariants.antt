use Rattle.std.proofs.Common.{◌≡◌, ◌++◌, ℕ, List, map, filter}
use Rattle.irv_base.specs.Candidates.{candidates}
use Rattle.set_tallies.specs.Bags.{IsOf}
use Rattle.set_walk.specs.Dives.{is_seen}
use Rattle.nen_cut.specs.Cut.{is_cut, AreCutters}
use Rattle.nen_cut.proofs.nens.put_nens.Given as goal

abbrev pub invariant-loop-c : goal.invariant-loop-c
invariant-loop-c l = record {
  steps : l.steps ≡ l.fn.steps;
  nens : (records : List (List ℕ)) (before : List (ℕ × ℕ)) → IsOf l.fn.steps.tallies.bag records →
      AreCutters l.n records l.fn.steps.least before l.fn.nens.items →
      AreCutters l.n records l.fn.steps.least
      (before ++ map (λ c. (l.set, c)) (filter (is_cut l.n l.fn.steps.winner records l.fn.steps.least (is_seen l.seen.sets.keys) l.set) (candidates l.c)))
      l.nens.items;
}
