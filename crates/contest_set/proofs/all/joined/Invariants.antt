use Rattle.std.proofs.Common.{◌≡◌, ◌++◌, List, length, take}
use Rattle.std.specs.Vec.Iter.{into_iter_items}
use Rattle.ballots.specs.Ballots.{BallotFile}
use Rattle.manifest.specs.Cards.{Batches}
use Rattle.seen_file.specs.Seen.{Entry}
use Rattle.contest_set.specs.Ends.{AreEnds}
use Rattle.contest_set.specs.Refusals.{AreResults}
use Rattle.contest_set.specs.declared.terms.SharedTerms.{SharedTerms}
use Rattle.contest_set.proofs.all.joined.Given as goal

abbrev pub invariant-loop-place : goal.invariant-loop-place
invariant-loop-place l = record {
  whole : l.fn.places.items ≡ l.yielded ++ into_iter_items l.place-iterator;
  ends : (batches : Batches) (terms : SharedTerms) (list : List BallotFile) (seen : List (List Entry)) → length l.fn.places.items ≡ length list →
      length seen ≡ length list → AreResults batches terms list seen l.fn.places.items →
      AreEnds batches terms (take (length l.yielded) list) (take (length l.yielded) seen) l.ends.items;
}
