use Rattle.std.proofs.Common.{◌≡◌, [], take}
use Rattle.ballot_reader.specs.Kept.{parts_from}
use Rattle.ballot_reader.proofs.kept.no_parts.Given as goal

abbrev pub invariant-loop-place : goal.invariant-loop-place
invariant-loop-place l = l.parts.items ≡ parts_from 0 l.wanted [] (take l.place l.contests)
