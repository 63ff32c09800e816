use Rattle.std.proofs.Common.{◌≡◌, ℕ, List, flat_map, take}
use Rattle.set_tallies.specs.Bags.{IsOf}
use Rattle.set_walk.specs.Dives.{is_seen}
use Rattle.nen_cut.specs.Cut.{cut_steps_from, AreCutters}
use Rattle.nen_cut.proofs.nens.nens_of.Given as goal

abbrev pub invariant-loop-place : goal.invariant-loop-place
invariant-loop-place l = record {
  steps : l.steps ≡ l.fn.steps;
  nens : (records : List (List ℕ)) → IsOf l.fn.steps.tallies.bag records →
      AreCutters l.n records l.fn.steps.least
      (flat_map (cut_steps_from l.n l.fn.steps.winner records l.fn.steps.least (is_seen l.seen.sets.keys)) (take l.place l.seen.sets.keys))
      l.nens.items;
}
