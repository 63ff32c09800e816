use Rattle.std.proofs.Common.{◌≡◌, ◌<◌, ℕ, Some}
use Rattle.std.specs.List.{slice_get}
use Rattle.ballot_ids.specs.Joined.{ArePagesApart}
use Rattle.ballot_ids.specs.declared.noted.Noted.{Noted}
use Rattle.ballot_reader.proofs.kept_parts.are_apart.Given as goal

abbrev pub invariant-loop-place : goal.invariant-loop-place
invariant-loop-place l =
    (k : ℕ) (met more : Noted) → k < l.place → slice_get l.sets k ≡ Some met → slice_get l.others k ≡ Some more → ArePagesApart met more
