use Rattle.std.proofs.Common.{◌≡◌, ◌++◌, ℕ, List, map}
use Rattle.std.specs.Vec.Iter.{into_iter_items}
use Rattle.set_tallies.specs.Bags.{Kept}
use Rattle.shared_witness.specs.Race.{SharedRace}
use Rattle.suffix_tree.specs.Suffixes.{Suffix}
use Rattle.bound_search.specs.Team.{TeamRan, IsJoined}
use Rattle.bound_search.specs.declared.team.Worker.{Worker}
use Rattle.bound_search.proofs.join.join.Given as goal

abbrev pub invariant-loop-worker : goal.invariant-loop-worker
invariant-loop-worker l = record {
  whole : l.fn.team.items ≡ l.yielded ++ into_iter_items l.worker-iterator;
  made : l.seats.items ≡ map (λ (w : Worker). w.seat) l.yielded;
  joined : (bag : Kept) (nodes : ℕ) (tails : List Suffix) (race : SharedRace) → TeamRan bag nodes tails race l.fn.team.items →
      IsJoined bag nodes tails race l.fn.start (record { seats = l.seats; ends = l.ends; reports = l.reports; best = l.best; spent = l.spent });
}
