use Rattle.ballot_reader.specs.Parts.{IsJoined}
use Rattle.ballot_ids.specs.declared.noted.Noted.{Noted}
use Rattle.ballot_reader.proofs.PutBehind.{SoFarTogether}
use Rattle.ballot_reader.proofs.kept_parts.join_all.Given as goal

abbrev pub invariant-loop-place : goal.invariant-loop-place
invariant-loop-place l = SoFarTogether Noted IsJoined l.fn.sets.items l.others l.sets.items l.place
