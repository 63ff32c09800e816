use Rattle.std.proofs.Common.{◌≡◌, ◌++◌, ◌<◌, ℕ, true, List, length}
use Rattle.std.specs.Option.{is_some}
use Rattle.std.specs.Vec.Iter.{into_iter_items}
use Rattle.set_tallies.specs.Bags.{Kept, IsOf}
use Rattle.certifier.specs.declared.gather.Task.{Task}
use Rattle.certifier.specs.OneCandidate.{IsTask}
use Rattle.certifier.specs.Parts.{IsPartSoFar, AreParts}
use Rattle.certifier.proofs.Dealing.{dealt_below}
use Rattle.certifier.proofs.team.joined.Given as goal

abbrev pub invariant-loop-part : goal.invariant-loop-part
invariant-loop-part l = record {
  whole : l.fn.parts.items ≡ l.yielded ++ into_iter_items l.part-iterator;
  some : 0 < length l.yielded → is_some l.all ≡ true;
  all : (bag : Kept) (task : Task) (workers : ℕ) (records : List (List ℕ)) → AreParts bag task workers l.fn.parts.items → IsOf bag records →
      IsTask bag.n records task →
      (0 < length l.yielded → 1 < bag.n) × IsPartSoFar bag.n records task (dealt_below workers (length l.yielded)) l.all;
}
