use Rattle.std.proofs.Common.{◌≡◌, ◌<◌, ℕ, Some}
use Rattle.std.specs.Prelude.{Option}
use Rattle.std.specs.List.{slice_get}
use Rattle.ballot_reader.specs.Kept.{KeptPart}
use Rattle.ballot_reader.specs.Parts.{form_of}
use Rattle.ballot_reader.proofs.kept_parts.are_alike.Given as goal

abbrev pub invariant-loop-place : goal.invariant-loop-place
invariant-loop-place l =
    (k : ℕ) (before part : Option KeptPart) → k < l.place → slice_get l.parts k ≡ Some before → slice_get l.others k ≡ Some part → form_of part ≡ form_of before
